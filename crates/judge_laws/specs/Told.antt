-- What is told of a run is its trace (own): between what stands first and last in the trace, of each turn the line of what is told of it,
-- and after an event the lines of the ports that come onto the wire by it.
use Rattle.std.specs.Prelude.{◌≡◌, Bool, ℕ, true, false, List, [], ◌∷◌, ◌++◌, Option, Some, None, codes, slice_get}
use Rattle.std.specs.Fmt.{decimal}
use Rattle.std.specs.List.{concat, flat_map}
use Rattle.line_rounds.specs.declared.Outcome.{Outcome}
use Rattle.edid_core.specs.declared.edid.Edid.{Edid}
use Rattle.edid_tree.specs.Path.{is_on_wire}
use Rattle.room_net.specs.State.{first_net}
use Rattle.room_net.specs.Apply.{event_fault, net_after}
use Rattle.room_script.specs.declared.script.TimedEvent.{TimedEvent}
use Rattle.room_trace.specs.PortText.{port_lines}
use Rattle.room_run.specs.declared.run.Reporting.TheVariants.{Trace}
use Rattle.room_run.specs.declared.run.Totals.{Totals}
use Rattle.room_run.specs.Emulate.{IsTraceOf}
use Rattle.room_run.specs.Happening.{Happening}
use Rattle.room_run.specs.Happening.Happening.{OfEvent, OfRound}
use Rattle.room_run.specs.OneRun.{rounds_of_trace}
use Rattle.room_run.specs.Run.{Config, end_reported, start_reported}
use Rattle.expect_judge.specs.Told.{EventLine, RoundLine}
use Rattle.record_core.specs.declared.cell.Form.TheVariants.{Text}
use Rattle.expect_told.specs.Turns.{IsRunOf, event_told, round_told, told_by}

-- ---- lines, by what is told

abbrev pub outcome_again : Option (List ℕ) → List ℕ
outcome_again None = codes " ok\n"
outcome_again (Some word) = codes " refused " ++ (word ++ codes "\n")

-- of an event
abbrev pub event_again : EventLine → List ℕ
event_again e = decimal e.at ++ (codes " event " ++ (decimal e.line ++ outcome_again e.refused))

-- of a round
abbrev pub complete_word : Bool → List ℕ
complete_word true = codes "complete "
complete_word false = []

abbrev pub line_again : RoundLine → List ℕ
line_again r = concat (decimal r.begin ∷ codes " " ∷ decimal r.at ∷ codes " " ∷ complete_word r.is_complete ∷ r.reported ∷ codes "\n" ∷ [])

abbrev pub turn_again : Option Edid → Happening → List ℕ
turn_again edid (OfEvent at e before) = event_again (event_told at e (event_fault before e.event)) ++ port_lines at edid (is_on_wire before.tree) (net_after at e.event before).tree
turn_again edid (OfRound begin before o) = line_again (round_told Text false before.devices o)

-- ---- what happens, turn by turn

abbrev pub applied_in : Happening → List TimedEvent
applied_in (OfEvent at e before) = e ∷ []
applied_in (OfRound begin before o) = []

abbrev pub outcomes_in : Happening → List Outcome
outcomes_in (OfEvent at e before) = []
outcomes_in (OfRound begin before o) = o ∷ []

-- ---- the laws

-- of a trace, and the turns of its run
pub record IsTraceTold (topology plain text : List ℕ) (totals : Totals) (p : IsTraceOf topology plain text totals) (happened : List Happening) (last : Config) : Type 0 where
  pub whole : text ≡ start_reported (Trace p.edid) (first_net p.plan.tree p.course.pulses) ++ (flat_map (turn_again p.edid) happened ++ end_reported (Trace p.edid) p.course.end last.net)
  -- the rounds that the trace reports, in order, each once
  pub rounds : rounds_of_trace topology plain text totals p ≡ flat_map outcomes_in happened
  -- the events are the script's, from the first on
  pub in_order : p.course.events ≡ flat_map applied_in happened ++ last.events

abbrev pub TracesAreTold : Type 0
TracesAreTold = (topology plain text : List ℕ) (totals : Totals) (happened : List Happening) (last : Config) → (p : IsTraceOf topology plain text totals) → IsRunOf topology plain happened last
    → IsTraceTold topology plain text totals p happened last

-- Two rounds, of one run or of two, whose lines in a trace are the same text are told as the same round: they began and ended
-- together, what is said of them is the same, and so is how they are shown as text.
abbrev pub LinesReportRounds : Type 0
LinesReportRounds = (topology plain other course : List ℕ) (xs ys : List Happening) (c d : Config) → IsRunOf topology plain xs c → IsRunOf other course ys d → (i j : ℕ) (a b : RoundLine)
    → slice_get (told_by Text false xs).rounds i ≡ Some a → slice_get (told_by Text false ys).rounds j ≡ Some b → line_again a ≡ line_again b → a ≡ b
