-- What is told of a sweep while it runs (own): after each thousand instants, as long as there are more, how many of how many are done,
-- and how many stretches those make that are done.
use Rattle.std.specs.Prelude.{◌≡◌, ℕ, zero, suc, ◌+◌, ◌-◌, ◌*◌, ◌/◌, Bool, true, false, List, length, Result, Ok, Err, Some}
use Rattle.expect_sweep.specs.Order.{ordered_range}
use Rattle.expect_sweep.specs.Series.{InstantSeries, instants_of}
use Rattle.expect_sweep.specs.Stretches.{AreStretches, Stretch}
use Rattle.expect_sweep.specs.Sweep.{AreVerdictsAt}
use Rattle.expect_sweep.specs.declared.progress.SweepProgress.{SweepProgress}
use Rattle.expect_sweep.specs.declared.sweeping.SweepError.{SweepError}
use Rattle.expect_sweep.specs.declared.sweeping.SweepError.TheVariants.{NoRange, Range, At, Write, Memory}

abbrev pub told_each : ℕ
told_each = 1000

-- the first instants of a series, so many
abbrev pub first_instants : ℕ → InstantSeries → InstantSeries
first_instants n s = record { from = s.from; to = s.from + (n - 1) * s.step; step = s.step }

-- after so many instants of a series: the stretches are those of these instants alone
pub record IsProgress (Found : ℕ → List Bool → Type 0) (s : InstantSeries) (n : ℕ) (p : SweepProgress) : Type 0 where
  pub done : p.done ≡ n
  pub count : p.count ≡ length (instants_of s)
  pub stretches : List Stretch
  pub are : AreStretches Found (first_instants n s) stretches
  pub counted : p.stretches ≡ length stretches

-- a hearer has heard how far a sweep is after a thousand instants, after two thousand, and so on, so many times
abbrev pub IsHeardTo : {H : Type 0} → (H → SweepProgress → H → Type 0) → (ℕ → List Bool → Type 0) → InstantSeries → ℕ → H → H → Type 0
IsHeardTo hears Found s zero old new = new ≡ old
IsHeardTo {H} hears Found s (suc k) old new = (middle : H) × IsHeardTo hears Found s k old middle × (p : SweepProgress) × IsProgress Found s (told_each * suc k) p × hears middle p new

-- each time that there were more instants
abbrev pub IsHeardAll : {H : Type 0} → (H → SweepProgress → H → Type 0) → (ℕ → List Bool → Type 0) → InstantSeries → H → H → Type 0
IsHeardAll hears Found s old new = IsHeardTo hears Found s ((length (instants_of s) - 1) / told_each) old new

-- some times, up to an instant with a refusal, or where memory ran out
abbrev pub IsHeardSome : {H : Type 0} → (H → SweepProgress → H → Type 0) → (ℕ → List Bool → Type 0) → InstantSeries → H → H → Type 0
IsHeardSome hears Found s old new = (k : ℕ) × IsHeardTo hears Found s k old new

-- what is heard of a sweep, by its end
abbrev pub IsSweepHeard : {H : Type 0} → (H → SweepProgress → H → Type 0) → List ℕ → List ℕ → Result Bool SweepError → H → H → Type 0
IsSweepHeard hears topology script (Ok holds) old new = (s : InstantSeries) × (ordered_range script ≡ Ok (Some s)) × IsHeardAll hears (AreVerdictsAt topology script) s old new
IsSweepHeard hears topology script (Err (Write count)) old new = (s : InstantSeries) × (ordered_range script ≡ Ok (Some s)) × IsHeardAll hears (AreVerdictsAt topology script) s old new
IsSweepHeard hears topology script (Err (At instant error)) old new = (s : InstantSeries) × (ordered_range script ≡ Ok (Some s)) × IsHeardSome hears (AreVerdictsAt topology script) s old new
IsSweepHeard hears topology script (Err Memory) old new = (s : InstantSeries) × (ordered_range script ≡ Ok (Some s)) × IsHeardSome hears (AreVerdictsAt topology script) s old new
IsSweepHeard hears topology script (Err NoRange) old new = new ≡ old
IsSweepHeard hears topology script (Err (Range fault)) old new = new ≡ old

-- ---- parts

-- it is told where this is so
abbrev pub IsTold : {H : Type 0} → (H → SweepProgress → H → Type 0) → Bool → H → SweepProgress → H → Type 0
IsTold hears true old p new = hears old p new
IsTold hears false old p new = new ≡ old
