-- The trace of a run and the texts of its line tell one run (own).
use Rattle.std.specs.Prelude.{◌≡◌, ℕ, ◌+◌, ◌≤◌, All, List, [], ◌∷◌, ◌++◌, map, Option, codes}
use Rattle.std.specs.List.{concat, flat_map}
use Rattle.line_wave.specs.declared.Stretch.{Stretch}
use Rattle.line_wave.specs.Line.{IsWave}
use Rattle.line_rounds.specs.Bounds.{longest_round}
use Rattle.line_rounds.specs.declared.Outcome.{Outcome}
use Rattle.edid_tree.specs.Node.{Node}
use Rattle.room_script.specs.declared.script.TimedEvent.{TimedEvent}
use Rattle.room_net.specs.State.{NetState, first_net}
use Rattle.device_core.specs.State.{State}
use Rattle.edid_core.specs.declared.edid.Edid.{Edid}
use Rattle.message_text.specs.ReadingText.{reading_text}
use Rattle.room_trace.specs.TraceText.{comma_list, name_at, loser_text}
use Rattle.room_run.specs.declared.run.Reporting.{Reporting}
use Rattle.capture_forms.specs.declared.form.CaptureForm.{CaptureForm}
use Rattle.room_run.specs.declared.run.Reporting.TheVariants.{Trace, Line}
use Rattle.room_run.specs.declared.run.Totals.{Totals}
use Rattle.room_run.specs.Run.{Config, start, start_reported, end_reported, event_text, Leads, IsRunText, IsTrace}
use Rattle.room_run.specs.RunLine.{rounds_in}
use Rattle.room_run.specs.Emulate.{IsTraceOf, IsLineOf}

-- the rounds that a run's text reports, in order
abbrev pub rounds_reported : (reporting : Reporting) (end : ℕ) (c : Config) (text : List ℕ) (totals : Totals) → IsRunText reporting end c text totals → List Outcome
rounds_reported reporting end c text totals reported = rounds_in reporting end reported.run.turns c reported.run.body reported.run.last reported.run.leads

-- two texts report as many turns, which end in one state, and the same rounds, in order: the same readings, survivors, losers and lines
pub record IsOneRun (reporting other : Reporting) (end : ℕ) (c : Config) (x y : List ℕ) (s t : Totals) (p : IsRunText reporting end c x s) (q : IsRunText other end c y t) : Type 0 where
  pub totals : s ≡ t
  pub turns : p.run.turns ≡ q.run.turns
  pub last : p.run.last ≡ q.run.last
  pub rounds : rounds_reported reporting end c x s p ≡ rounds_reported other end c y t q

-- whatever is told of it, its trace or its line in some format, it is one run
abbrev pub OneRun : Type 0
OneRun = (reporting other : Reporting) (end : ℕ) (c : Config) (x y : List ℕ) (s t : Totals) → (p : IsRunText reporting end c x s) → (q : IsRunText other end c y t)
    → IsOneRun reporting other end c x y s t p q

-- ---- of texts

abbrev pub rounds_of_trace : (topology script text : List ℕ) (totals : Totals) → IsTraceOf topology script text totals → List Outcome
rounds_of_trace topology script text totals w =
    rounds_reported (Trace w.edid) w.course.end (start (first_net w.plan.tree w.course.pulses) w.course.events) text totals w.trace

abbrev pub rounds_of_line : (format : CaptureForm) (topology script text : List ℕ) (totals : Totals) → IsLineOf format topology script text totals → List Outcome
rounds_of_line format topology script text totals w =
    rounds_reported (Line format) w.course.end (start (first_net w.plan.tree w.course.pulses) w.course.events) text totals w.line

-- The trace and the line, in any format, of a topology and a script have the same counts, and tell the same rounds, in order.
abbrev pub TextsHaveOneRun : Type 0
TextsHaveOneRun = (format : CaptureForm) (topology script x y : List ℕ) (s t : Totals) → (p : IsTraceOf topology script x s) → (q : IsLineOf format topology script y t)
    → (s ≡ t) × (rounds_of_trace topology script x s p ≡ rounds_of_line format topology script y t q)

-- ---- the parts of a trace

-- what is reported of an event, or a round's line, by the devices after it
pub data Part : Type 0 where
  OfEvent : (at : ℕ) → (event : TimedEvent) → (before : NetState) → Part
  OfRound : (devices : List State) → (outcome : Outcome) → Part

-- what stands after the reading in a round's line
abbrev pub by_and_out : List State → Outcome → List ℕ
by_and_out devices o =
    concat (codes " by " ∷ comma_list (map (name_at devices) o.survivors.items) ∷ codes " out " ∷ comma_list (map (loser_text devices) o.losers.items) ∷ codes "\n" ∷ [])

abbrev pub part_text : Option Edid → Part → List ℕ
part_text edid (OfEvent at e before) = event_text edid at e before
part_text edid (OfRound devices o) = reading_text o.reading ++ by_and_out devices o

abbrev pub part_rounds : Part → List Outcome
part_rounds (OfEvent at e before) = []
part_rounds (OfRound devices o) = o ∷ []

-- a trace is made of these parts, one after another, between what the start and what the end reports; and these are its rounds
pub record IsMadeOf (edid : Option Edid) (end : ℕ) (first last : NetState) (text : List ℕ) (os : List Outcome) : Type 0 where
  pub parts : List Part
  pub whole : text ≡ start_reported (Trace edid) first ++ (flat_map (part_text edid) parts ++ end_reported (Trace edid) end last)
  pub rounds : os ≡ flat_map part_rounds parts

abbrev pub TracesHaveParts : Type 0
TracesHaveParts = (edid : Option Edid) (end : ℕ) (c : Config) (text : List ℕ) (totals : Totals) → (p : IsTrace edid end c text totals)
    → IsMadeOf edid end c.net p.run.last.net text (rounds_reported (Trace edid) end c text totals p)

-- ---- when it is over

-- these are in order, and those that begin while the last reading can go on are over by an instant
pub record AreOverBy (bound end : ℕ) (pulls : List Stretch) : Type 0 where
  pub order : IsWave pulls
  pub ends : All (λ p. p.from ≤ end + longest_round → p.to ≤ bound) pulls

-- The last round closes by any instant that is the longest round after the script's end at least, and by which the pulls that
-- begin until then are over.
abbrev pub RunsCloseSoon : Type 0
RunsCloseSoon = (reporting : Reporting) (tree : List Node) (pulses : List Stretch) (events : List TimedEvent) (bound end turns : ℕ) (text : List ℕ) (d : Config)
    → end + longest_round ≤ bound → AreOverBy bound end pulses → Leads reporting end turns (start (first_net tree pulses) events) text d → d.net.close ≤ bound
