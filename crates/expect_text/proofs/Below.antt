-- One of the numbers below a number is so.
use Rattle.std.proofs.Common.{◌≡◌, ℕ, zero, suc, ◌+◌, ◌-◌, ◌<◌, ◌≤◌, ◌||◌, ◌⊎◌, inl, inr, Bool, true, false, refl, sym, ap, subst, ◌∙◌, arith, true≢false}
use Rattle.std.proofs.lemmas.Bool.{cases_lt}
use Rattle.expect_text.specs.Parts.{any_below}
use Rattle.expect_text.proofs.Truth.{either, or_left, or_right}

-- the largest, or one below it
pub below_more : (f : ℕ → Bool) (n : ℕ) → any_below (n + 1) f ≡ (f n || any_below n f)
unfolding any_below
below_more f n = let same : n + 1 ≡ suc n = omega arith in ap (λ k. any_below k f) same

-- where it is not the largest
pub below_next : (f : ℕ → Bool) (largest next : ℕ) → next + 1 ≡ largest → f largest ≡ false → any_below (largest + 1) f ≡ any_below (next + 1) f
below_next f largest next e h = below_more f largest ∙ ap (λ b. b || any_below largest f) h ∙ ap (λ k. any_below k f) (sym e)

pub below_none : (f : ℕ → Bool) → any_below 0 f ≡ false
unfolding any_below
below_none f = refl

pub at_least_one : (n : ℕ) → (n ≡ 0 → ⊥) → 1 ≤ n
at_least_one zero h = absurd (h refl)
at_least_one (suc n) h = omega arith

-- where the number just below is not so
pub below_rest : (f : ℕ → Bool) (n : ℕ) (r : Bool) → f n ≡ false → 1 ≤ n → r ≡ any_below (n - 1 + 1) f → r ≡ any_below (n + 1) f
below_rest f n r h l e = let same : n - 1 + 1 ≡ n = omega (arith, l) in e ∙ ap (λ (k : ℕ). any_below k f) same ∙ sym (below_more f n ∙ ap (λ b. b || any_below n f) h)

-- the number just below is so
pub below_first : (f : ℕ → Bool) (n : ℕ) → f n ≡ true → any_below (n + 1) f ≡ true
below_first f n h = below_more f n ∙ or_left (f n) (any_below n f) h

-- the least one, where it is not so
pub below_last : (f : ℕ → Bool) (n : ℕ) → n ≡ 0 → f n ≡ false → any_below (n + 1) f ≡ false
unfolding any_below
below_last f n e h = below_more f n ∙ ap (λ b. b || any_below n f) h ∙ ap (λ (k : ℕ). any_below k f) e

pub below_only : (is_so : ℕ → Bool) (n k : ℕ) → k < n → is_so k ≡ true → any_below n is_so ≡ true
unfolding any_below
below_only is_so zero k l h = absurd (omega arith)
below_only is_so (suc n) k l h = by (cases_lt k n) (λ less. below_only is_so n k less h)
  where
    by : (k < n) ⊎ (n ≤ k) → (k < n → any_below n is_so ≡ true) → (is_so n || any_below n is_so) ≡ true
    by (inl less) below = or_right (is_so n) (any_below n is_so) (below less)
    by (inr more) below = let same : k ≡ n = omega arith in or_left (is_so n) (any_below n is_so) (subst (λ x. is_so x ≡ true) same h)

pub below_some : (is_so : ℕ → Bool) (n : ℕ) → any_below n is_so ≡ true → (k : ℕ) × (k < n) × (is_so k ≡ true)
unfolding any_below
below_some is_so zero h = absurd (true≢false (sym h))
below_some is_so (suc n) h = either (is_so n) (any_below n is_so) h (λ e. (n, omega arith, e)) (λ e. let r = below_some is_so n e in let l = r.1 in (r.0, omega arith, r.2))
