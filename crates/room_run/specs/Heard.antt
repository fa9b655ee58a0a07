-- What a reporter has heard of a run, and what a run says of its sink (own).
use Rattle.std.specs.Prelude.{◌≡◌, ℕ, Bool, true, List, [], ◌∷◌, Option, Result, Ok, Err}
use Rattle.std.specs.Io.KnownBytes.{Appends}
use Rattle.std.specs.List.{flat_map}
use Rattle.text_core.specs.Adds.{Adds, Tally}
use Rattle.text_core.specs.Cut.{CutOff}
use Rattle.text_core.specs.declared.sink.WriteFault.{WriteFault}
use Rattle.room_net.specs.State.{NetState}
use Rattle.room_run.specs.declared.run.Totals.{Totals}
use Rattle.room_run.specs.declared.run.Turn.TheVariants.{Stop}
use Rattle.room_run.specs.Run.{Config, turn_at}
use Rattle.room_run.specs.Happening.{Happening, Goes}

-- of one turn after another
abbrev pub Hears : {R : Type 0} → (R → Happening → R → Type 0) → R → List Happening → R → Type 0
Hears hears r [] s = s ≡ r
Hears {R} hears r (x ∷ xs) s = (mid : R) × hears r x mid × Hears hears mid xs s

-- of a turn, by a reporter that adds a text of it; the text goes by something that stays (an EDID, a format)
abbrev pub AddsEach : {R K : Type 0} → (R → Tally) → (R → K) → (K → Happening → List ℕ) → R → Happening → R → Type 0
AddsEach tally kept said r x s = Adds (tally r) (tally s) (said (kept r) x) × (kept s ≡ kept r)

-- what has heard so of turns has added their texts, one after another
abbrev pub TurnsAreAdded : Type 0 → Type 0 → Type 0
TurnsAreAdded R K = (tally : R → Tally) (kept : R → K) (said : K → Happening → List ℕ) (xs : List Happening) (r s : R) → Hears (AddsEach tally kept said) r xs s
    → Adds (tally r) (tally s) (flat_map (said (kept r)) xs)

-- It has heard of the run's turns, each once and in order: of all of them, where it still wants to hear more.
pub record IsRunHeard {R : Type 0} (hears : R → Happening → R → Type 0) (end : ℕ) (c : Config) (net : NetState) (totals : Totals) (old new : R) (goes_on : Bool) : Type 0 where
  pub happened : List Happening
  pub last : Config
  pub goes : Goes end c happened last
  pub heard : Hears hears old happened new
  pub net_is : net ≡ last.net
  pub totals_is : totals ≡ last.totals
  pub whole : goes_on ≡ true → turn_at end last ≡ Stop

-- Of the sink: a text of the run was written, or each text of the run was cut off.
abbrev pub IsRunWritten : (List ℕ → Totals → Type 0) → (old new : Option (List ℕ)) → (was is : Bool) → Result Totals WriteFault → Type 0
IsRunWritten IsText old new was is (Ok totals) = (text : List ℕ) × IsText text totals × Appends old new text × (is ≡ was)
IsRunWritten IsText old new was is (Err fault) = ((text : List ℕ) (totals : Totals) → IsText text totals → CutOff old new text fault) × (is ≡ true)
