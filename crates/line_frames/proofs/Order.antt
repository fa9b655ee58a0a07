-- One slot of a comparison of two frames' bits, and one frame of a search for the winners.
use Rattle.std.proofs.Common.{◌≡◌, ℕ, ◌+◌, ◌-◌, ◌≤◌, Bool, true, false, not, List, [], ◌∷◌, length, drop, Some, slice_get, refl, arith, ap, ◌∙◌, sym, suc, zero, ◌⊎◌, inl, inr}
use mathlib.Core.Bool.{beq}
use Rattle.line_frames.specs.Bits.{comes_before}

same : (xs ys : List Bool) (i : ℕ) (a b : Bool) → slice_get xs i ≡ Some a → slice_get ys i ≡ Some b → not (beq a b) ≡ false
    → comes_before (drop (suc i) xs) (drop (suc i) ys) ≡ comes_before (drop i xs) (drop i ys)
same (false ∷ xs) (false ∷ ys) zero a b p q h = refl
same (true ∷ xs) (true ∷ ys) zero a b p q h = refl
same (false ∷ xs) (true ∷ ys) zero false b p q h = cc
same (false ∷ xs) (true ∷ ys) zero true b p q h = cc
same (true ∷ xs) (false ∷ ys) zero false b p q h = cc
same (true ∷ xs) (false ∷ ys) zero true false p q h = cc
same (true ∷ xs) (false ∷ ys) zero true true p q h = cc
same [] ys i a b p q h = cc
same (x ∷ xs) [] i a b p q h = cc
same (x ∷ xs) (y ∷ ys) (suc i) a b p q h = same xs ys i a b p q h

differ : (xs ys : List Bool) (i : ℕ) (a b : Bool) → slice_get xs i ≡ Some a → slice_get ys i ≡ Some b → not (beq a b) ≡ true
    → comes_before (drop i xs) (drop i ys) ≡ b
differ (false ∷ xs) (y ∷ ys) zero true b p q h = cc
differ (true ∷ xs) (y ∷ ys) zero false b p q h = cc
differ (false ∷ xs) (true ∷ ys) zero false b p q h = cc
differ (false ∷ xs) (false ∷ ys) zero false true p q h = cc
differ (false ∷ xs) (false ∷ ys) zero false false p q h = cc
differ (true ∷ xs) (true ∷ ys) zero true true p q h = cc
differ (true ∷ xs) (true ∷ ys) zero true false p q h = cc
differ (true ∷ xs) (false ∷ ys) zero true b p q h = cc
differ [] ys i a b p q h = cc
differ (x ∷ xs) [] i a b p q h = cc
differ (x ∷ xs) (y ∷ ys) (suc i) a b p q h = differ xs ys i a b p q h

nothing_before : (xs : List Bool) → comes_before xs [] ≡ false
nothing_before [] = refl
nothing_before (false ∷ xs) = refl
nothing_before (true ∷ xs) = refl

none_past : (xs : List Bool) (i : ℕ) → length xs ≤ i → drop i xs ≡ []
none_past [] zero h = refl
none_past [] (suc i) h = refl
none_past (x ∷ xs) zero h = absurd (omega arith)
none_past (x ∷ xs) (suc i) h = none_past xs i (omega arith)

-- the comparison so far: both lists' places below i are alike
pub same_slot : (xs ys : List Bool) (i : ℕ) (a b : Bool) → slice_get xs (i + 1 - 1) ≡ Some a → slice_get ys (i + 1 - 1) ≡ Some b
    → not (beq a b) ≡ false → comes_before (drop i xs) (drop i ys) ≡ comes_before xs ys
    → comes_before (drop (i + 1) xs) (drop (i + 1) ys) ≡ comes_before xs ys
same_slot xs ys i a b p q h k =
    let e : i + 1 - 1 ≡ i = omega arith in
    let f : i + 1 ≡ suc i = omega arith in
    rw f (same xs ys i a b (rw e at p) (rw e at q) h ∙ k)

pub first_difference : (xs ys : List Bool) (i : ℕ) (a b : Bool) → slice_get xs (i + 1 - 1) ≡ Some a → slice_get ys (i + 1 - 1) ≡ Some b
    → not (beq a b) ≡ true → comes_before (drop i xs) (drop i ys) ≡ comes_before xs ys → b ≡ comes_before xs ys
first_difference xs ys i a b p q h k =
    let e : i + 1 - 1 ≡ i = omega arith in
    sym (differ xs ys i a b (rw e at p) (rw e at q) h) ∙ k

-- where one of them ends, neither comes before the other
pub no_difference : (xs ys : List Bool) (i : ℕ) → (length xs ≤ i) ⊎ (length ys ≤ i)
    → comes_before (drop i xs) (drop i ys) ≡ comes_before xs ys → false ≡ comes_before xs ys
no_difference xs ys i (inl h) k = ap (λ d. comes_before d (drop i ys)) (sym (none_past xs i h)) ∙ k
no_difference xs ys i (inr h) k = sym (nothing_before (drop i xs)) ∙ ap (comes_before (drop i xs)) (sym (none_past ys i h)) ∙ k
