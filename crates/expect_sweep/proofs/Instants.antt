-- The instants of a series.
use Rattle.std.proofs.Common.{◌≡◌, ℕ, zero, suc, ◌+◌, ◌-◌, ◌*◌, ◌/◌, ◌<◌, ◌≤◌, [], ◌∷◌, ◌++◌, length, refl, ap, sym, ◌∙◌, arith}
use Rattle.std.proofs.lemmas.Nat.{div-mul-add}
use Rattle.std.proofs.Math.Nat.{add-div_right}
use Rattle.expect_sweep.specs.Series.{instants_from, instants}

-- one more at the end
pub counted_more : (from step n : ℕ) → instants_from from step (suc n) ≡ instants_from from step n ++ (from + n * step) ∷ []
counted_more from step zero =
    let e : from ≡ from + zero * step = omega arith in
    ap (λ t. t ∷ []) e
counted_more from step (suc n) =
    let e : from + step + n * step ≡ from + suc n * step = omega arith in
    ap (λ ts. from ∷ ts) (counted_more (from + step) step n ∙ ap (λ t. instants_from (from + step) step n ++ t ∷ []) e)

-- up to the k-th instant after the first
pub instants_up_to : (step from k to : ℕ) → 0 < step → to ≡ from + k * step → instants step from to ≡ instants_from from step (suc k)
instants_up_to step from k to moves is =
    let d : to - from ≡ k * step + 0 = omega (arith, is) in
    let q : (to - from) / step ≡ k = ap (λ n. n / step) d ∙ div-mul-add k step 0 moves in
    let n : (to - from) / step + 1 ≡ suc k = omega (arith, q) in
    ap (instants_from from step) n

-- one step further
pub instants_more : (step from k to : ℕ) → 0 < step → to ≡ from + k * step → instants step from (to + step) ≡ instants step from to ++ (to + step) ∷ []
instants_more step from k to moves is =
    let e : to + step ≡ from + suc k * step = omega (arith, is) in
    instants_up_to step from (suc k) (to + step) moves e ∙ counted_more from step (suc k) ∙ sym (ap (λ ts. ts ++ (from + suc k * step) ∷ []) (instants_up_to step from k to moves is))
    ∙ sym (ap (λ t. instants step from to ++ t ∷ []) e)

pub one_instant : (step t : ℕ) → 0 < step → instants step t t ≡ t ∷ []
one_instant step t moves =
    let e : t ≡ t + 0 * step = omega arith in
    instants_up_to step t 0 t moves e

-- those that are left
pub counted_next : (step at to : ℕ) → 0 < step → at ≤ to → step ≤ to - at
    → instants_from (at + step) step ((to - at) / step) ≡ (at + step) ∷ instants_from (at + step + step) step ((to - (at + step)) / step)
counted_next step at to moves before room =
    let d : to - at ≡ to - (at + step) + step = omega (arith, before, room) in
    let q : (to - at) / step ≡ (to - (at + step)) / step + 1 = ap (λ n. n / step) d ∙ add-div_right (to - (at + step)) moves in
    let n : (to - at) / step ≡ suc ((to - (at + step)) / step) = omega (arith, q) in
    ap (instants_from (at + step) step) n

-- none is left
pub counted_none : (step at to : ℕ) → 0 < step → to - at < step → instants_from (at + step) step ((to - at) / step) ≡ []
counted_none step at to moves last =
    let d : to - at ≡ 0 * step + (to - at) = omega arith in
    let q : (to - at) / step ≡ 0 = ap (λ n. n / step) d ∙ div-mul-add 0 step (to - at) last in
    ap (instants_from (at + step) step) q

-- how many there are
pub counted : (from step n : ℕ) → length (instants_from from step n) ≡ n
counted from step zero = refl
counted from step (suc n) = ap (λ m. suc m) (counted (from + step) step n)
