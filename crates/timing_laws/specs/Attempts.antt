-- A run without pulses keeps to the attempts of the standard (CEC 7.1): a frame that is not taken is sent six times at most.
use Rattle.std.specs.Prelude.{ℕ, ◌≤◌, List, [], ◌∷◌, Option, Some, None}
use Rattle.line_wave.specs.Bounds.{latest_event}
use Rattle.edid_tree.specs.Node.{Node}
use Rattle.line_reading.specs.Readings.{Listed, readings_of}
use Rattle.capture_core.specs.Edges.{Captured, line_of_edges}
use Rattle.audit_core.specs.Audit.{Tape, after, come_to, first_tape}
use Rattle.audit_remarks.specs.declared.attempts.Failure.{Failure}
use Rattle.audit_remarks.specs.Attempts.{failure_of}
use Rattle.audit_remarks.specs.Free.{free_before}
use Rattle.room_net.specs.State.{first_net}
use Rattle.room_script.specs.Script.{AreFramedEvents}
use Rattle.room_script.specs.declared.script.TimedEvent.{TimedEvent}
use Rattle.capture_forms.specs.declared.form.CaptureForm.{CaptureForm}
use Rattle.room_run.specs.declared.run.Reporting.TheVariants.{Line}
use Rattle.room_run.specs.declared.run.Totals.{Totals}
use Rattle.room_run.specs.Run.{start, IsRunText}
use Rattle.capture_laws.specs.Formats.{IsReadText}

-- the first attempt, or one of five more
abbrev pub IsOfSix : Option Failure → Type 0
IsOfSix None = Unit {0}
IsOfSix (Some f) = f.attempt ≤ 6

-- an audit that goes from reading to reading remarks no attempt past the sixth
abbrev pub AreOfSix : Tape → List Listed → Type 0
AreOfSix t [] = Unit {0}
AreOfSix t (x ∷ xs) = IsOfSix (failure_of (come_to x t).attempts x.begin (free_before (come_to x t).previous x.begin) x.reported.bits) × AreOfSix (after x t) xs

abbrev pub GivesUp : Captured → Type 0
GivesUp c = AreOfSix (first_tape c.edges) (readings_of (line_of_edges c.edges) c.end)

-- The line of a run without pulses, within the limit of scripts and written in any format, is read as a capture of which an audit
-- remarks no seventh attempt, whatever the script, devices from outside and such that share an address among them.
abbrev pub RunsGiveUp : Type 0
RunsGiveUp = (format : CaptureForm) (tree : List Node) (events : List TimedEvent) (end : ℕ) (text : List ℕ) (totals : Totals)
    → AreFramedEvents events → IsRunText (Line format) end (start (first_net tree []) events) text totals → end ≤ latest_event
    → (c : Captured) × IsReadText format text c × GivesUp c
