-- What is told of a run (own): of its turns the rounds and the events, in order. It says of each round what the line of the trace says
-- after its times, and, where a pattern has names, who holds which address when the round begins; it is shown in a form.
use Rattle.std.specs.Prelude.{◌≡◌, ℕ, Bool, true, false, List, [], ◌∷◌, ◌++◌, Option, option_map}
use Rattle.std.specs.List.{flat_map}
use Rattle.line_rounds.specs.declared.Outcome.{Outcome}
use Rattle.device_core.specs.State.{State}
use Rattle.record_core.specs.declared.cell.Form.{Form}
use Rattle.edid_core.specs.Root.{IsRoot}
use Rattle.edid_core.specs.declared.edid.Edid.{Edid}
use Rattle.message_text.specs.ReadingText.{is_complete}
use Rattle.room_event.specs.declared.event.EventError.{EventError}
use Rattle.room_net.specs.State.{NetState, first_net}
use Rattle.room_net.specs.Apply.{event_fault}
use Rattle.room_script.specs.Script.{Course}
use Rattle.room_script.specs.Topology.{Plan}
use Rattle.room_script.specs.declared.script.TimedEvent.{TimedEvent}
use Rattle.room_trace.specs.TraceText.{error_word}
use Rattle.room_run.specs.Emulate.{IsAccepted}
use Rattle.room_run.specs.Happening.{Goes, Happening}
use Rattle.room_run.specs.Happening.Happening.{OfEvent, OfRound}
use Rattle.room_run.specs.Heard.{IsRunHeard}
use Rattle.room_run.specs.Run.{Config, start, turn_at}
use Rattle.room_run.specs.declared.run.Totals.{Totals}
use Rattle.room_run.specs.declared.run.Turn.TheVariants.{Stop}
use Rattle.expect_text.specs.Line.{plain_script}
use Rattle.expect_text.specs.Names.{has_names}
use Rattle.expect_judge.specs.Told.{EventLine, RoundLine, Told}
use Rattle.expect_told.specs.Said.{reading_said}
use Rattle.expect_told.specs.Senders.{holders_text, senders_text}
use Rattle.expect_told.specs.Shown.{round_shown}

-- ---- one turn

-- what was read, who went on to the end, and who did not
abbrev pub sent_said : List State → Outcome → List ℕ
sent_said devices o = reading_said o.reading ++ senders_text devices o

-- who holds which address, where it is asked for
abbrev pub holders_said : Bool → List State → List ℕ
holders_said false devices = []
holders_said true devices = holders_text devices

abbrev pub round_told : Form → Bool → List State → Outcome → RoundLine
round_told form named devices o = record {
  begin = o.reading.begin;
  at = o.reading.at;
  is_complete = is_complete o.reading.ending;
  reported = sent_said devices o ++ holders_said named devices;
  shown = round_shown form devices o;
}

abbrev pub event_told : ℕ → TimedEvent → Option EventError → EventLine
event_told at e fault = record { at = at; line = e.line; refused = option_map error_word fault }

abbrev pub rounds_of : Form → Bool → Happening → List RoundLine
rounds_of form named (OfEvent at e before) = []
rounds_of form named (OfRound begin before o) = round_told form named before.devices o ∷ []

abbrev pub events_of : Happening → List EventLine
events_of (OfEvent at e before) = event_told at e (event_fault before e.event) ∷ []
events_of (OfRound begin before o) = []

-- ---- one turn after another

abbrev pub told_by : Form → Bool → List Happening → Told
told_by form named xs = record { rounds = flat_map (rounds_of form named) xs; events = flat_map events_of xs }

-- these are the turns of the run that the texts spell, up to where it stops; it ends there so
pub record IsRunOf (topology plain : List ℕ) (happened : List Happening) (last : Config) : Type 0 where
  pub plan : Plan
  pub course : Course
  pub edid : Option Edid
  pub accepted : IsAccepted topology plain plan course
  pub root : IsRoot plan.edid edid
  pub goes : Goes course.end (start (first_net plan.tree course.pulses) course.events) happened last
  pub stops : turn_at course.end last ≡ Stop

-- what is told of the run of a script without its labels and expectations
pub record IsToldOf (form : Form) (topology script : List ℕ) (told : Told) : Type 0 where
  pub happened : List Happening
  pub last : Config
  pub run : IsRunOf topology (plain_script script) happened last
  pub told_is : told ≡ told_by form (has_names script) happened

-- the turns of the run were heard: all of them, where more is wanted
pub record IsHeardOf {R : Type 0} (hears : R → Happening → R → Type 0) (topology plain : List ℕ) (old new : R) (net : NetState) (goes_on : Bool) : Type 0 where
  pub plan : Plan
  pub course : Course
  pub edid : Option Edid
  pub accepted : IsAccepted topology plain plan course
  pub root : IsRoot plan.edid edid
  pub totals : Totals
  pub heard : IsRunHeard hears course.end (start (first_net plan.tree course.pulses) course.events) net totals old new goes_on

-- the texts have one run
abbrev pub TextsHaveOneTold : Type 0
TextsHaveOneTold = (form : Form) (topology script : List ℕ) (t u : Told) → IsToldOf form topology script t → IsToldOf form topology script u → t ≡ u

-- and its turns end in one state
abbrev pub TextsEndSo : Type 0
TextsEndSo = (topology plain : List ℕ) (xs ys : List Happening) (c d : Config) → IsRunOf topology plain xs c → IsRunOf topology plain ys d → (xs ≡ ys) × (c ≡ d)
