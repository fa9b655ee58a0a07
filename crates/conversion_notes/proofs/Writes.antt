-- A text is written line by line, each with what stands below it.
use Rattle.std.proofs.Common.{◌≡◌, ℕ, zero, suc, ◌+◌, ◌<◌, ◌≤◌, List, [], ◌∷◌, ◌++◌, length, take, get_or, Option, Some, None, slice_get, flat_map, ap, arith, sym, ◌∙◌, append-nil, subst}
use Rattle.std.specs.Io.KnownBytes.{Appends}
use Rattle.std.proofs.lemmas.Grind.{flat_map-append}
use Rattle.std.proofs.lemmas.List.{take_more, take_all}
use Rattle.std.proofs.lemmas.Option.{slice_get_within, get_or_from_slice_get}
use Rattle.std.proofs.KnownBytes.{Appends-trans}
use Rattle.text_core.proofs.CutShort.{cut_short}
use Rattle.edid_text_lines.specs.declared.line.Line.{Line}

pub text_more : (f : Line → List ℕ) (ls : List Line) (n : ℕ) (l : Line) → slice_get ls n ≡ Some l → flat_map f (take (n + 1) ls) ≡ flat_map f (take n ls) ++ f l
text_more f ls n l h =
    let more = take_more ls n l (slice_get_within ls n l h) in
    let same = get_or_from_slice_get ls n l l h in
    ap (flat_map f) more ∙ flat_map-append f (take n ls) (get_or ls n l ∷ [])
    ∙ ap (λ x. flat_map f (take n ls) ++ x) (append-nil (f (get_or ls n l)) ∙ ap f same)

pub wrote_more : (f : Line → List ℕ) (ls : List Line) (n : ℕ) (l : Line) (t : List ℕ) (a b c : Option (List ℕ)) → t ≡ f l → slice_get ls n ≡ Some l → Appends a b (flat_map f (take n ls)) → Appends b c t
    → Appends a c (flat_map f (take (n + 1) ls))
wrote_more f ls n l t a b c e h p q = subst (λ x. Appends a c x) (sym (text_more f ls n l h)) (Appends-trans a b c _ _ p (subst (λ x. Appends b c x) e q))

past : {X : Type 0} (ls : List X) (n : ℕ) → slice_get ls n ≡ None → length ls ≤ n
past [] n h = omega arith
past (l ∷ ls) zero h = cc
past (l ∷ ls) (suc n) h = let rest = past ls n h in omega (arith, rest)

pub wrote_all : (f : Line → List ℕ) (ls : List Line) (n : ℕ) (a b : Option (List ℕ)) → slice_get ls n ≡ None → Appends a b (flat_map f (take n ls)) → Appends a b (flat_map f ls)
wrote_all f ls n a b h p = subst (λ x. Appends a b (flat_map f x)) (take_all n ls (past ls n h)) p

-- the lines before one are written, and then the front of it
pub cut_line : (f : Line → List ℕ) (ls : List Line) (i k n : ℕ) (l : Line) (t : List ℕ) (a b c : Option (List ℕ)) → t ≡ f l → slice_get ls i ≡ Some l → n ≡ length (flat_map f (take i ls)) → k < length t
    → Appends a b (flat_map f (take i ls)) → Appends b c (take k t) → (n + k < length (flat_map f ls)) × Appends a c (take (n + k) (flat_map f ls))
cut_line f ls i k n l t a b c e h count short first second =
    let same = e ∙ ap f (sym (get_or_from_slice_get ls i l l h)) in
    cut_short f ls i k n l a b c (slice_get_within ls i l h) count (subst (λ x. k < length x) same short) first (subst (λ x. Appends b c (take k x)) same second)
