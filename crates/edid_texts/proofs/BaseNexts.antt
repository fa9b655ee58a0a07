-- The lines of a base block, one after the other.
use Rattle.std.proofs.Common.{◌≡◌, ℕ, zero, suc, ◌+◌, ◌-◌, ◌<◌, List, [], ◌∷◌, ◌++◌, length, map, take, set, Bool, true, false, Option, Some, MatchBool, slice_get, ap, arith, refl, sym, ◌∙◌, length-append, append_assoc, append-nil}
use Rattle.std.proofs.lemmas.List.{length-map, take-append-le, length-set}
use Rattle.std.proofs.lemmas.Option.{slice_get_within}
use Rattle.std.proofs.Math.Seq.{take-append-add}
use Rattle.hex.specs.Hex.{IsBytes}
use Rattle.edid_base.proofs.Bytes.{are_bytes-append, are_bytes-at, are_bytes-take}
use Rattle.edid_base.specs.Bytes.{are_bytes}
use Rattle.edid_base.specs.declared.base.Base.{Base}
use Rattle.edid_base.specs.declared.descriptor.Descriptor.{Descriptor}
use Rattle.edid_base.specs.declared.standard.StandardTiming.{StandardTiming}
use Rattle.edid_texts.specs.Lines.{head_lines, base_lines, standard_line, descriptor_line}
use Rattle.edid_text_lines.specs.declared.line.Line.{Line}
use Rattle.edid_texts.proofs.Gets.{get_left, get_right}

-- the bytes of a base block
pub byte_fits : (b : Base) → IsBytes (b.week ∷ b.input ∷ b.width ∷ b.height ∷ b.gamma ∷ b.features ∷ b.extensions ∷ b.established)
byte_fits b i = are_bytes-at (b.week ∷ b.input ∷ b.width ∷ b.height ∷ b.gamma ∷ b.features ∷ b.extensions ∷ b.established) i b.bytes_fit

-- an element of a list, by its line
got : {X : Type 0} (f : X → Line) (xs : List X) (i : ℕ) (l : Line) → slice_get (map f xs) i ≡ Some l → (x : X) × (f x ≡ l)
got f [] i l h = let n = slice_get_within [] i l h in absurd (omega (arith, n))
got f (x ∷ xs) zero l h = (x, cc)
got f (x ∷ xs) (suc i) l h = got f xs i l h

-- one element set
pub set_line : {X : Type 0} (f : X → Line) (hs ys : List Line) (xs : List X) (i n : ℕ) (x : X) (l : Line) → n ≡ length hs + i → i < length xs → f x ≡ l
    → take (n + 1) (hs ++ (map f (set xs i x) ++ ys)) ≡ take n (hs ++ (map f xs ++ ys)) ++ l ∷ []
set_line f hs ys xs i n x l at less is =
    let one : n + 1 ≡ length hs + suc i = omega (arith, at) in
    let long = length-map (set xs i x) f in
    let size = length-set xs i x in
    let len = length-map xs f in
    ap (λ k. take k (hs ++ (map f (set xs i x) ++ ys))) one
    ∙ take-append-add hs (map f (set xs i x) ++ ys) (suc i)
    ∙ ap (λ t. hs ++ t) (take-append-le (suc i) (map f (set xs i x)) ys (omega (arith, long, size, less)))
    ∙ ap (λ t. hs ++ t) (mapped xs i less)
    ∙ sym (assoc hs (take i (map f xs)) (l ∷ []))
    ∙ ap (λ t. (hs ++ t) ++ l ∷ []) (sym (take-append-le i (map f xs) ys (omega (arith, len, less))))
    ∙ ap (λ t. t ++ l ∷ []) (sym (take-append-add hs (map f xs ++ ys) i))
    ∙ ap (λ k. take k (hs ++ (map f xs ++ ys)) ++ l ∷ []) (sym at)
  where
    assoc : (a b c : List Line) → (a ++ b) ++ c ≡ a ++ (b ++ c)
    assoc [] b c = refl
    assoc (x ∷ a) b c = ap (λ t. x ∷ t) (assoc a b c)

    mapped : (xs : List _) (i : ℕ) → i < length xs → take (suc i) (map f (set xs i x)) ≡ take i (map f xs) ++ l ∷ []
    mapped [] i h = absurd (omega arith)
    mapped (y ∷ ys) zero h = ap (λ t. t ∷ []) is
    mapped (y ∷ ys) (suc i) h = ap (λ t. f y ∷ t) (mapped ys i (omega arith))

pub standard_got : (b : Base) (n : ℕ) (l : Line) → 10 < n → n < 19 → slice_get (base_lines b) n ≡ Some l → (s : Option StandardTiming) × (standard_line s ≡ l)
standard_got b n l h k e =
    let len = length-map b.standard standard_line in
    let first = get_right (head_lines b) (map standard_line b.standard ++ map descriptor_line b.descriptors) n (n - 11) (omega arith) in
    let second = get_left (map standard_line b.standard) (map descriptor_line b.descriptors) (n - 11) (omega (arith, len, b.eight, h, k)) in
    got standard_line b.standard (n - 11) l (sym second ∙ sym first ∙ e)

pub descriptor_got : (b : Base) (n : ℕ) (l : Line) → 18 < n → slice_get (base_lines b) n ≡ Some l → (d : Descriptor) × (descriptor_line d ≡ l)
descriptor_got b n l h e =
    let len = length-map b.standard standard_line in
    let first = get_right (head_lines b) (map standard_line b.standard ++ map descriptor_line b.descriptors) n (n - 11) (omega arith) in
    let second = get_right (map standard_line b.standard) (map descriptor_line b.descriptors) (n - 11) (n - 19) (omega (arith, len, b.eight, h)) in
    got descriptor_line b.descriptors (n - 19) l (sym second ∙ sym first ∙ e)

-- one of the first eleven
pub head_got : (b : Base) (n : ℕ) (l : Line) → n < 11 → slice_get (base_lines b) n ≡ Some l → slice_get (head_lines b) n ≡ Some l
head_got b n l h e = sym (get_left (head_lines b) (map standard_line b.standard ++ map descriptor_line b.descriptors) n h) ∙ e

pub set_descriptor : (b : Base) (n : ℕ) (d : Descriptor) (l : Line) → 18 < n → n < 23 → descriptor_line d ≡ l
    → take (n + 1) (head_lines b ++ (map standard_line b.standard ++ map descriptor_line (set b.descriptors (n - 19) d))) ≡ take n (base_lines b) ++ l ∷ []
set_descriptor b n d l h k is =
    let front = head_lines b ++ map standard_line b.standard in
    let len = length-map b.standard standard_line in
    let at = set_line descriptor_line front [] b.descriptors (n - 19) n d l (omega (arith, length-append (head_lines b) (map standard_line b.standard), len, b.eight, h)) (omega (arith, b.four, h, k)) is in
    ap (take (n + 1)) (sym (four (head_lines b) (map standard_line b.standard) (map descriptor_line (set b.descriptors (n - 19) d))))
    ∙ at ∙ ap (λ t. take n t ++ l ∷ []) (four (head_lines b) (map standard_line b.standard) (map descriptor_line b.descriptors))
  where
    four : (a b c : List Line) → (a ++ b) ++ (c ++ []) ≡ a ++ (b ++ c)
    four a b c = append_assoc a b (c ++ []) ∙ ap (λ t. a ++ (b ++ t)) (append-nil c)

-- the line with a number
pub head_is : (b : Base) (n k : ℕ) (l m : Line) → n ≡ k → slice_get (head_lines b) k ≡ Some m → slice_get (head_lines b) n ≡ Some l → m ≡ l
head_is b n k l m e f g =
    let same : Path (Option Line) (Some m) (Some l) = sym f ∙ ap (slice_get (head_lines b)) (sym e) ∙ g in cc

pub lift_head : (r : Bool) (n : ℕ) (l : Line) (P : Type 0) → n < 11 → MatchBool r P ((b : Base) → slice_get (head_lines b) n ≡ Some l → ⊥)
    → MatchBool r P ((b : Base) → slice_get (base_lines b) n ≡ Some l → ⊥)
lift_head false n l P h k = λ b e. k b (head_got b n l h e)
lift_head true n l P h k = k

-- other established timings
pub established_fit : (b : Base) (xs : List ℕ) → are_bytes xs ≡ true
    → are_bytes (b.week ∷ b.input ∷ b.width ∷ b.height ∷ b.gamma ∷ b.features ∷ b.extensions ∷ xs) ≡ true
established_fit b xs h =
    let front = b.week ∷ b.input ∷ b.width ∷ b.height ∷ b.gamma ∷ b.features ∷ b.extensions ∷ [] in
    are_bytes-append front xs (are_bytes-take 7 (front ++ b.established) b.bytes_fit) h
