-- What is kept of a run as it is heard (own).
use Rattle.std.specs.Prelude.{◌≡◌, ℕ, Bool, true, false, ◌||◌, if◌then◌else◌, map, List, [], ◌∷◌}
use Rattle.record_core.specs.declared.cell.Form.{Form}
use Rattle.record_core.specs.declared.cell.Form.TheVariants.{Text}
use Rattle.room_run.specs.Happening.{Happening}
use Rattle.expect_judge.specs.Told.{EventLine, RoundLine, Told, event_as, kept_as}
use Rattle.expect_run.specs.declared.told.KeptTold.{KeptTold}
use Rattle.expect_run.specs.declared.told.RunTold.{RunTold}
use Rattle.expect_told.specs.Turns.{told_by}
use Rattle.expect_run.specs.Kept.{are_timed, is_event_kept, is_round_kept, joined, kept_if}

-- how far it is: the form in which rounds are shown; the script whose needs are kept, or all; whether rounds say who holds which
-- address; whether nothing more is kept
pub record Sifting : Type 0 where
  pub form : Form
  pub script : List ℕ
  pub all : Bool
  pub named : Bool
  pub lost : Bool
  pub told : Told

-- where all is kept, no event is late
abbrev pub AreOnTime : Bool → List ℕ → List Happening → Type 0
AreOnTime true script xs = Unit {0}
AreOnTime false script xs = are_timed script (told_by Text false xs).events ≡ true

-- after these turns, unless something was lost, what is needed of them is kept
pub record IsSifted (r : Sifting) (xs : List Happening) (s : Sifting) : Type 0 where
  pub form_is : s.form ≡ r.form
  pub script_is : s.script ≡ r.script
  pub all_is : s.all ≡ r.all
  pub named_is : s.named ≡ r.named
  pub well : s.lost ≡ false → r.lost ≡ false
  pub told_is : s.lost ≡ false → s.told ≡ joined r.told (kept_if r.all r.script (told_by r.form r.named xs))
  pub timed : s.lost ≡ false → AreOnTime r.all r.script xs

abbrev pub SiftsOne : Sifting → Happening → Sifting → Type 0
SiftsOne r x s = IsSifted r (x ∷ []) s

-- as it is held
abbrev pub sifted_as : RunTold → Sifting
sifted_as t = record {
  form = t.form;
  script = t.needs.script.now;
  all = t.all;
  named = t.named;
  lost = t.lost;
  told = record { rounds = map kept_as t.rounds.items; events = map event_as t.events.items };
}

abbrev pub told_kept : KeptTold → Told
told_kept t = record { rounds = map kept_as t.rounds.items; events = map event_as t.events.items }

-- nothing is heard yet
abbrev pub first_sifting : Form → List ℕ → Bool → Bool → Sifting
first_sifting form script all named = record { form = form; script = script; all = all; named = named; lost = false; told = record { rounds = []; events = [] } }

-- a round, so shown
abbrev pub shown_as : RoundLine → List ℕ → RoundLine
shown_as r text = record r { shown = text }

-- one round or one event, where it is needed, or all are
abbrev pub rounds_if : Bool → List ℕ → RoundLine → List RoundLine
rounds_if all script r = if all || is_round_kept script r then r ∷ [] else []

abbrev pub events_if : Bool → List ℕ → EventLine → List EventLine
events_if all script e = if all || is_event_kept script e then e ∷ [] else []
