-- A range that breaks the order of its script does so at its first instant or at its last one.
use Rattle.std.proofs.Common.{◌≡◌, ℕ, zero, suc, ◌+◌, ◌-◌, ◌*◌, ◌/◌, ◌%◌, ◌≤◌, ◌⊎◌, inl, inr, ◌||◌, not, Bool, true, false, Option, Some, None, ap, refl, sym, ◌∙◌, arith, if◌then◌else◌}
use Rattle.std.specs.List.{list_any}
use Rattle.std.proofs.Math.Nat.{mod-add-div}
use Rattle.std.proofs.lemmas.Bool.Decides.{nat_tests}
use Rattle.text_core.specs.Number.{number_of}
use Rattle.expect_sweep.specs.Order.{Clock, between, are_apart, are_times_apart, is_crossed, keeps_order, last_of}
use Rattle.expect_sweep.specs.Series.{IsSeries, InstantSeries, instants_from, instants_of, is_range}
use Rattle.expect_sweep.specs.declared.order.Apart.{Apart}
use Rattle.expect_sweep.specs.declared.order.Apart.TheVariants.{AnyOrder, After, Before}

-- the remainder of what lies between two times
pub remainder_within : (n step : ℕ) → n % step ≤ n
remainder_within n step = omega (arith, mod-add-div n step)

-- ---- tests that hold from some instant on, or up to one

abbrev Rises : (ℕ → Bool) → Type 0
Rises P = (x y : ℕ) → x ≤ y → P x ≡ true → P y ≡ true

abbrev Falls : (ℕ → Bool) → Type 0
Falls P = (x y : ℕ) → x ≤ y → P y ≡ true → P x ≡ true

or_right : (x y : Bool) → (x ≡ true → y ≡ true) → (x || y) ≡ y
or_right true y h = sym (h refl)
or_right false y h = refl

or_left : (x y : Bool) → (y ≡ true → x ≡ true) → (x || y) ≡ x
or_left true y h = refl
or_left false true h = sym (h refl)
or_left false false h = refl

or_false : (x : Bool) → (x || false) ≡ x
or_false true = refl
or_false false = refl

rising_any : (P : ℕ → Bool) → Rises P → (from step n : ℕ) → list_any P (instants_from from step (suc n)) ≡ P (from + n * step)
rising_any P rises from step zero =
    let e : from ≡ from + zero * step = omega arith in
    or_false (P from) ∙ ap P e
rising_any P rises from step (suc n) =
    let e : from + step + n * step ≡ from + suc n * step = omega arith in
    let le : from ≤ from + step + n * step = omega arith in
    ap (λ b. P from || b) (rising_any P rises (from + step) step n) ∙ or_right (P from) (P (from + step + n * step)) (rises from (from + step + n * step) le) ∙ ap P e

falling_any : (P : ℕ → Bool) → Falls P → (from step n : ℕ) → list_any P (instants_from from step (suc n)) ≡ P from
falling_any P falls from step zero = or_false (P from)
falling_any P falls from step (suc n) =
    let le : from ≤ from + step = omega arith in
    ap (λ b. P from || b) (falling_any P falls (from + step) step n) ∙ or_left (P from) (P (from + step)) (falls from (from + step) le)

-- of a series
last_is : (s : InstantSeries) → IsSeries s → s.from + (s.to - s.from) / s.step * s.step ≡ last_of s
last_is s is = omega (arith, is.forward, mod-add-div (s.to - s.from) s.step)

from_last : (s : InstantSeries) → s.from ≤ s.to → s.from ≤ last_of s
from_last s forward = omega (arith, forward, remainder_within (s.to - s.from) s.step)

any_of : (s : InstantSeries) → IsSeries s → (P : ℕ → Bool) → Rises P ⊎ Falls P → list_any P (instants_of s) ≡ (P s.from || P (last_of s))
any_of s is P (inl rises) =
    let n : (s.to - s.from) / s.step + 1 ≡ suc ((s.to - s.from) / s.step) = omega arith in
    ap (λ k. list_any P (instants_from s.from s.step k)) n ∙ rising_any P rises s.from s.step ((s.to - s.from) / s.step) ∙ ap P (last_is s is)
    ∙ sym (or_right (P s.from) (P (last_of s)) (rises s.from (last_of s) (from_last s is.forward)))
any_of s is P (inr falls) =
    let n : (s.to - s.from) / s.step + 1 ≡ suc ((s.to - s.from) / s.step) = omega arith in
    ap (λ k. list_any P (instants_from s.from s.step k)) n ∙ falling_any P falls s.from s.step ((s.to - s.from) / s.step)
    ∙ sym (or_left (P s.from) (P (last_of s)) (falls s.from (last_of s) (from_last s is.forward)))

-- ---- the order of two lines

constant : (b : Bool) → Rises (λ t. b) ⊎ Falls (λ t. b)
constant b = inl (λ x y le h. h)

-- with the time of the first line at an instant
first_moves : (how : Apart) (b : ℕ) → Rises (λ t. not (are_apart how t b)) ⊎ Falls (λ t. not (are_apart how t b))
first_moves AnyOrder b = constant false
first_moves (After gap) b = inl (λ x y le h. grind (arith, nat_tests))
first_moves Before b = inr (λ x y le h. grind (arith, nat_tests))

second_moves : (how : Apart) (a : ℕ) → Rises (λ t. not (are_apart how a t)) ⊎ Falls (λ t. not (are_apart how a t))
second_moves AnyOrder a = constant false
second_moves (After gap) a = inr (λ x y le h. grind (arith, nat_tests))
second_moves Before a = inl (λ x y le h. grind (arith, nat_tests))

-- with the time of a word at an instant, which is the instant or hangs on none
first_by : (how : Apart) (is_moving : Bool) (fixed other : Option ℕ)
    → Rises (λ t. not (are_times_apart how (if is_moving then Some t else fixed) other)) ⊎ Falls (λ t. not (are_times_apart how (if is_moving then Some t else fixed) other))
first_by how true fixed None = constant false
first_by how true fixed (Some b) = first_moves how b
first_by how false fixed other = constant (not (are_times_apart how fixed other))

second_by : (how : Apart) (is_moving : Bool) (fixed other : Option ℕ)
    → Rises (λ t. not (are_times_apart how other (if is_moving then Some t else fixed))) ⊎ Falls (λ t. not (are_times_apart how other (if is_moving then Some t else fixed)))
second_by how true fixed None = constant false
second_by how true fixed (Some a) = second_moves how a
second_by how false fixed other = constant (not (are_times_apart how other fixed))

either_way : (is_above : Bool) (other ranged : Clock) → Rises (λ t. not (keeps_order is_above other ranged t)) ⊎ Falls (λ t. not (keeps_order is_above other ranged t))
either_way true other ranged = second_by (between other.kind ranged.kind) (is_range ranged.word) (number_of ranged.word) (number_of other.word)
either_way false other ranged = first_by (between ranged.kind other.kind) (is_range ranged.word) (number_of ranged.word) (number_of other.word)

-- at some instant it is so exactly where it is at the first one or at the last
pub crossed_at_ends : (s : InstantSeries) → IsSeries s → (is_above : Bool) (other ranged : Clock)
    → is_crossed s is_above other ranged ≡ (not (keeps_order is_above other ranged s.from) || not (keeps_order is_above other ranged (last_of s)))
crossed_at_ends s is is_above other ranged = any_of s is (λ t. not (keeps_order is_above other ranged t)) (either_way is_above other ranged)
