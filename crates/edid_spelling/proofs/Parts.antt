-- The first part of a text, and the others.
use Rattle.std.proofs.Common.{◌≡◌, ℕ, suc, ◌+◌, ◌<◌, ◌≤◌, Bool, true, false, not, cond, List, [], ◌∷◌, length, take, drop, sym, ◌∙◌, ap, subst, refl, arith}
use Rattle.std.specs.List.{slice_split, onto_first, position_or_len}
use Rattle.std.proofs.lemmas.List.Splits.{slice_split_first}

alone : (p : ℕ → Bool) (xs : List ℕ) → length xs ≤ position_or_len p xs → slice_split p xs ≡ xs ∷ []
alone p [] h = refl
alone p (x ∷ xs) h =
    elim (p x) as (λ b. (suc (length xs) ≤ cond (not b) (1 + position_or_len p xs) 0) → cond b ([] ∷ slice_split p xs) (onto_first x (slice_split p xs)) ≡ (x ∷ xs) ∷ []) [
      | true ↦ λ low. absurd (omega arith)
      | false ↦ λ low. let e : slice_split p xs ≡ xs ∷ [] = alone p xs (omega arith) in rw e refl
    ] h

-- a text without a separator is one part
pub whole : (p : ℕ → Bool) (xs : List ℕ) (n : ℕ) → n ≡ position_or_len p xs → length xs ≤ n → slice_split p xs ≡ xs ∷ []
whole p xs n e l = alone p xs (subst (λ m. length xs ≤ m) e l)

-- the first part ends at the first separator
pub parted : (p : ℕ → Bool) (xs first rest : List ℕ) (n : ℕ) → n ≡ position_or_len p xs → n < length xs → first ≡ take n xs → rest ≡ drop (n + 1) xs
    → slice_split p xs ≡ first ∷ slice_split p rest
parted p xs first rest n e l f r =
    let here : position_or_len p xs < length xs = subst (λ m. m < length xs) e l in
    rw (f, r) (slice_split_first p xs 0 here ∙ ap (λ m. take m xs ∷ slice_split p (drop (m + 1) xs)) (sym e))
