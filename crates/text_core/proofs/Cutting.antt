-- Counts of what was written of a text, part by part.
use Rattle.std.proofs.Common.{◌≡◌, ℕ, suc, drop, get_or, subst, drop-cons, ◌+◌, ◌<◌, ◌≤◌, List, [], ◌∷◌, ◌++◌, length, take, Option, ap, ◌∙◌, sym, refl, arith, append_assoc, append-nil, length-append}
use Rattle.std.specs.Io.KnownBytes.{Appends}
use Rattle.std.specs.List.{flat_map}
use Rattle.std.proofs.lemmas.Grind.{flat_map-append}
use Rattle.std.proofs.lemmas.List.{take-append-le, take-append-drop, take_more}
use Rattle.std.proofs.Math.Seq.{take-append-add}
use Rattle.std.proofs.KnownBytes.{Appends-trans}
use Rattle.text_core.specs.declared.sink.WriteFault.{WriteFault}
use Rattle.text_core.specs.Cut.{CutOff, reported_count}

-- the counts of two parts
pub reported_sum : (n m a b : ℕ) → n ≡ reported_count a → m ≡ reported_count b → reported_count (n + m) ≡ reported_count (a + b)
reported_sum n m a b e f = omega arith

pub reported_parts : (n m : ℕ) (xs ys : List ℕ) → n ≡ reported_count (length xs) → m ≡ reported_count (length ys) → reported_count (n + m) ≡ reported_count (length (xs ++ ys))
reported_parts n m xs ys e f = reported_sum n m (length xs) (length ys) e f ∙ ap reported_count (sym (length-append xs ys))

-- a text is written so far, and a fault cuts the next part off
pub cut_after : (a b c : Option (List ℕ)) (xs ys zs : List ℕ) (n k : ℕ) (fault : WriteFault) → n ≡ reported_count (length xs) → Appends a b xs
    → k < length ys → Appends b c (take k ys) → fault.count ≡ reported_count (n + k) → CutOff a c ((xs ++ ys) ++ zs) fault
cut_after a b c xs ys zs n k fault e before short front f =
    let low : k ≤ length ys = omega arith in
    let all : (xs ++ ys) ++ zs ≡ xs ++ (ys ++ zs) = append_assoc xs ys zs in
    let cut : take (length xs + k) (xs ++ (ys ++ zs)) ≡ xs ++ take k ys =
    take-append-add xs (ys ++ zs) k ∙ ap (λ l. xs ++ l) (rw take-append-le refl) in (
      length xs + k,
      rw all (omega (arith, length-append xs (ys ++ zs), length-append ys zs)),
      omega arith,
      rw (all, cut) (Appends-trans a b c xs (take k ys) before front),
    )

-- the same, where the fault counts what it saturated before
pub cut_again : (a b c : Option (List ℕ)) (xs ys zs : List ℕ) (n : ℕ) (inner fault : WriteFault) → n ≡ reported_count (length xs) → Appends a b xs
    → CutOff b c ys inner → fault.count ≡ reported_count (n + inner.count) → CutOff a c ((xs ++ ys) ++ zs) fault
cut_again a b c xs ys zs n inner fault e before cut f =
    let same : fault.count ≡ reported_count (n + cut.0) = omega (arith, cut.2) in
    cut_after a b c xs ys zs n cut.0 fault e before cut.1 cut.3 same

-- the parts before one, that one, and the parts after it
parted : {X : Type 0} (f : X → List ℕ) (ps : List X) (i : ℕ) (d : X) → i < length ps
    → flat_map f ps ≡ flat_map f (take i ps) ++ (f (get_or ps i d) ++ flat_map f (drop (suc i) ps))
parted f ps i d h =
    ap (flat_map f) (sym (take-append-drop i ps)) ∙ flat_map-append f (take i ps) (drop i ps)
    ∙ ap (λ l. flat_map f (take i ps) ++ flat_map f l) (drop-cons ps i d h)

-- a fault cuts off one of the parts of a text
pub cut_part : {X : Type 0} (f : X → List ℕ) (ps : List X) (i : ℕ) (d : X) (a b c : Option (List ℕ)) (n k : ℕ) (fault : WriteFault) → i < length ps → get_or ps i d ≡ d
    → n ≡ reported_count (length (flat_map f (take i ps))) → Appends a b (flat_map f (take i ps)) → k < length (f d)
    → Appends b c (take k (f d)) → fault.count ≡ reported_count (n + k) → CutOff a c (flat_map f ps) fault
cut_part f ps i d a b c n k fault h item e before short front reported =
    let whole : flat_map f ps ≡ (flat_map f (take i ps) ++ f d) ++ flat_map f (drop (suc i) ps) =
    parted f ps i d h ∙ ap (λ y. flat_map f (take i ps) ++ (f y ++ flat_map f (drop (suc i) ps))) item
    ∙ sym (append_assoc (flat_map f (take i ps)) (f d) (flat_map f (drop (suc i) ps))) in
    subst (λ t. CutOff a c t fault) (sym whole)
    (cut_after a b c (flat_map f (take i ps)) (f d) (flat_map f (drop (suc i) ps)) n k fault e before short front reported)

-- the parts up to one more
pub more_parts : {X : Type 0} (f : X → List ℕ) (ps : List X) (i : ℕ) (x : X) → i < length ps → get_or ps i x ≡ x
    → flat_map f (take (i + 1) ps) ≡ flat_map f (take i ps) ++ f x
more_parts f ps i x h e =
    ap (flat_map f) (take_more ps i x h) ∙ flat_map-append f (take i ps) (get_or ps i x ∷ []) ∙ ap (λ y. flat_map f (take i ps) ++ (f y ++ [])) e
    ∙ ap (λ t. flat_map f (take i ps) ++ t) (append-nil (f x))

-- and their count
pub more_count : {X : Type 0} (f : X → List ℕ) (ps : List X) (i : ℕ) (x : X) (n m k : ℕ) → i < length ps → get_or ps i x ≡ x
    → n ≡ reported_count (length (flat_map f (take i ps))) → m ≡ length (f x) → k ≡ reported_count (n + m) → k ≡ reported_count (length (flat_map f (take (i + 1) ps)))
more_count f ps i x n m k h e count len reported =
    let more : length (flat_map f (take (i + 1) ps)) ≡ length (flat_map f (take i ps)) + length (f x) =
    ap length (more_parts f ps i x h e) ∙ length-append (flat_map f (take i ps)) (f x) in
    omega arith

-- the front part of a text was cut off
pub cut_front : (a b : Option (List ℕ)) (xs ys : List ℕ) (fault : WriteFault) → CutOff a b xs fault → CutOff a b (xs ++ ys) fault
cut_front a b xs ys fault cut =
    let low : cut.0 ≤ length xs = omega (arith, cut.1) in
    let same : take cut.0 (xs ++ ys) ≡ take cut.0 xs = rw take-append-le refl in (
      cut.0,
      omega (arith, cut.1, length-append xs ys),
      cut.2,
      rw same cut.3,
    )

-- the part after what was written was cut off
pub cut_later : (a b c : Option (List ℕ)) (xs ys : List ℕ) (n : ℕ) (inner fault : WriteFault) → n ≡ reported_count (length xs) → Appends a b xs
    → CutOff b c ys inner → fault.count ≡ reported_count (n + inner.count) → CutOff a c (xs ++ ys) fault
cut_later a b c xs ys n inner fault e before cut f =
    subst (λ t. CutOff a c t fault) (append-nil (xs ++ ys)) (cut_again a b c xs ys [] n inner fault e before cut f)

-- the same, after a line whose length was answered
pub cut_later_line : (a b c : Option (List ℕ)) (xs ys : List ℕ) (n : ℕ) (inner fault : WriteFault) → n ≡ length xs → Appends a b xs
    → CutOff b c ys inner → fault.count ≡ reported_count (n + inner.count) → CutOff a c (xs ++ ys) fault
cut_later_line a b c xs ys n inner fault e before cut f = cut_later a b c xs ys (reported_count n) inner fault (ap reported_count e) before cut (f ∙ same n inner.count)
  where
    same : (n m : ℕ) → reported_count (n + m) ≡ reported_count (reported_count n + m)
    same n m = omega arith

-- a part among others, where the parts are texts of several lines
pub more_reported : {X : Type 0} (f : X → List ℕ) (ps : List X) (i : ℕ) (x : X) (n m k : ℕ) → i < length ps → get_or ps i x ≡ x
    → n ≡ reported_count (length (flat_map f (take i ps))) → m ≡ reported_count (length (f x)) → k ≡ reported_count (n + m) → k ≡ reported_count (length (flat_map f (take (i + 1) ps)))
more_reported f ps i x n m k h e count len reported =
    let more : length (flat_map f (take (i + 1) ps)) ≡ length (flat_map f (take i ps)) + length (f x) =
    ap length (more_parts f ps i x h e) ∙ length-append (flat_map f (take i ps)) (f x) in
    omega arith

pub cut_text_part : {X : Type 0} (f : X → List ℕ) (ps : List X) (i : ℕ) (d : X) (a b c : Option (List ℕ)) (n : ℕ) (inner fault : WriteFault) → i < length ps → get_or ps i d ≡ d
    → n ≡ reported_count (length (flat_map f (take i ps))) → Appends a b (flat_map f (take i ps)) → CutOff b c (f d) inner
    → fault.count ≡ reported_count (n + inner.count) → CutOff a c (flat_map f ps) fault
cut_text_part f ps i d a b c n inner fault h item e before cut reported =
    let whole : flat_map f ps ≡ (flat_map f (take i ps) ++ f d) ++ flat_map f (drop (suc i) ps) =
    parted f ps i d h ∙ ap (λ y. flat_map f (take i ps) ++ (f y ++ flat_map f (drop (suc i) ps))) item
    ∙ sym (append_assoc (flat_map f (take i ps)) (f d) (flat_map f (drop (suc i) ps))) in
    subst (λ t. CutOff a c t fault) (sym whole)
    (cut_again a b c (flat_map f (take i ps)) (f d) (flat_map f (drop (suc i) ps)) n inner fault e before cut reported)
