-- What a sweep of a script answers (own): the stretches of its range, by the verdicts of the script with each instant in the
-- range's place.
use Rattle.std.specs.Prelude.{◌≡◌, ℕ, ◌<◌, Bool, true, false, List, ◌∷◌, ◌++◌, length, take, Option, Some, None, Result, Ok, Err}
use Rattle.std.specs.List.{All}
use Rattle.std.specs.Io.KnownBytes.{Appends}
use Rattle.record_core.specs.declared.cell.Form.{Form}
use Rattle.expect_run.specs.Check.{AreVerdictsOf, IsVerdictReported}
use Rattle.expect_run.specs.declared.checking.CheckError.{CheckError}
use Rattle.expect_sweep.specs.Order.{ordered_range}
use Rattle.expect_sweep.specs.Script.{script_at}
use Rattle.expect_sweep.specs.Series.{InstantSeries, instants_of}
use Rattle.expect_sweep.specs.Stretches.{AreStretches, StretchesDraft, Stretch, all_hold, stretches_text}
use Rattle.expect_sweep.specs.declared.sweeping.SweepError.{SweepError}
use Rattle.expect_sweep.specs.declared.sweeping.SweepError.TheVariants.{NoRange, Range, At, Write, Memory}

-- the verdicts of a check of the script at an instant
abbrev pub AreVerdictsAt : List ℕ → List ℕ → ℕ → List Bool → Type 0
AreVerdictsAt topology script t verdicts = AreVerdictsOf topology (script_at t script) verdicts

-- a script with a range, and its stretches
pub record IsSweepOf (topology script : List ℕ) (stretches : List Stretch) : Type 0 where
  pub series : InstantSeries
  pub range : ordered_range script ≡ Ok (Some series)
  pub are : AreStretches (AreVerdictsAt topology script) series stretches

-- their lines, or objects, are written; the answer is whether each verdict at each instant is ok
abbrev pub IsSwept : Form → List ℕ → List ℕ → Option (List ℕ) → Option (List ℕ) → Bool → Type 0
IsSwept form topology script old new holds = (stretches : List Stretch) × IsSweepOf topology script stretches × (holds ≡ all_hold stretches) × Appends old new (stretches_text form stretches)

-- the script is refused at an instant of a series, and at none before
pub record IsFirstRefusal (topology script : List ℕ) (s : InstantSeries) (instant : ℕ) (error : CheckError) : Type 0 where
  pub before : List ℕ
  pub after : List ℕ
  pub place : instants_of s ≡ before ++ instant ∷ after
  pub taken : All (λ t. (verdicts : List Bool) × AreVerdictsAt topology script t verdicts) before
  pub reported : IsVerdictReported topology (script_at instant script) error

abbrev pub IsRefusedAt : List ℕ → List ℕ → ℕ → CheckError → Type 0
IsRefusedAt topology script instant error = (s : InstantSeries) × (ordered_range script ≡ Ok (Some s)) × IsFirstRefusal topology script s instant error

-- when each refusal comes; of memory nothing is said
abbrev pub IsSweepReported : List ℕ → List ℕ → SweepError → Type 0
IsSweepReported topology script NoRange = ordered_range script ≡ Ok None
IsSweepReported topology script (Range fault) = ordered_range script ≡ Err fault
IsSweepReported topology script (At instant error) = IsRefusedAt topology script instant error
IsSweepReported topology script (Write count) = (stretches : List Stretch) × IsSweepOf topology script stretches
IsSweepReported topology script Memory = Unit {0}

-- what a refusal has written: after a failed write the front of the lines, as long as it reports, and else nothing
abbrev pub IsSweepCut : Form → List ℕ → List ℕ → Option (List ℕ) → Option (List ℕ) → SweepError → Type 0
IsSweepCut form topology script old new (Write count) =
    (stretches : List Stretch) × IsSweepOf topology script stretches × (count < length (stretches_text form stretches)) × Appends old new (take count (stretches_text form stretches))
IsSweepCut form topology script old new NoRange = new ≡ old
IsSweepCut form topology script old new (Range fault) = new ≡ old
IsSweepCut form topology script old new (At instant error) = new ≡ old
IsSweepCut form topology script old new Memory = new ≡ old

abbrev pub is_write : Result Bool SweepError → Bool
is_write (Ok holds) = false
is_write (Err (Write count)) = true
is_write (Err NoRange) = false
is_write (Err (Range fault)) = false
is_write (Err (At instant error)) = false
is_write (Err Memory) = false

-- ---- parts

-- a refusal at an instant
abbrev pub IsRefusalAt : List ℕ → List ℕ → ℕ → SweepError → Type 0
IsRefusalAt topology script t (At instant error) = (instant ≡ t) × IsVerdictReported topology (script_at t script) error
IsRefusalAt topology script t Memory = Unit {0}
IsRefusalAt topology script t NoRange = ⊥
IsRefusalAt topology script t (Range fault) = ⊥
IsRefusalAt topology script t (Write count) = ⊥

abbrev pub IsSeriesReported : List ℕ → List ℕ → InstantSeries → SweepError → Type 0
IsSeriesReported topology script s (At instant error) = IsFirstRefusal topology script s instant error
IsSeriesReported topology script s Memory = Unit {0}
IsSeriesReported topology script s NoRange = ⊥
IsSeriesReported topology script s (Range fault) = ⊥
IsSeriesReported topology script s (Write count) = ⊥

-- the lines of all stretches
abbrev pub IsSweptDraft : Form → List ℕ → List ℕ → InstantSeries → StretchesDraft → Type 0
IsSweptDraft form topology script s d =
    (stretches : List Stretch) × AreStretches (AreVerdictsAt topology script) s stretches × (d.text ≡ stretches_text form stretches) × (d.holds ≡ all_hold stretches)
