-- A run without pulses keeps the times of the standard (CEC 5.2.1, 5.2.2, 9.1): no width is out of its window, and no frame
-- begins before three bit periods have passed since the start of the final bit of the one before.
use Rattle.std.specs.Prelude.{◌≡◌, ℕ, ◌<◌, ◌≤◌, List, [], ◌∷◌, Option, Some, None}
use Rattle.line_wave.specs.Bounds.{latest_event}
use Rattle.edid_tree.specs.Node.{Node}
use Rattle.line_frames.specs.FreeTime.{free_time_of}
use Rattle.line_frames.specs.declared.free_time.FreeTime.TheVariants.{Retry}
use Rattle.line_reading.specs.Readings.{Listed, readings_of}
use Rattle.capture_core.specs.Edges.{Captured, line_of_edges}
use Rattle.audit_widths.specs.Misfits.{drive_within}
use Rattle.audit_core.specs.Audit.{Tape, after, come_to, drive_of, first_tape, lows_of, reading_misfits}
use Rattle.audit_remarks.specs.declared.free.TooSoon.{TooSoon}
use Rattle.audit_remarks.specs.Attempts.{tries_again}
use Rattle.audit_remarks.specs.Free.{too_soon}
use Rattle.room_net.specs.State.{first_net}
use Rattle.room_script.specs.Script.{AreFramedEvents}
use Rattle.room_script.specs.declared.script.TimedEvent.{TimedEvent}
use Rattle.capture_forms.specs.declared.form.CaptureForm.{CaptureForm}
use Rattle.room_run.specs.declared.run.Reporting.TheVariants.{Line}
use Rattle.room_run.specs.declared.run.Totals.{Totals}
use Rattle.room_run.specs.Run.{start, IsRunText}
use Rattle.capture_laws.specs.Formats.{IsReadText}

-- an audit that goes from reading to reading remarks no width, and no low drive, after a fall too early or within a low
abbrev pub AreInTime : Tape → List Listed → Type 0
AreInTime t [] = Unit {0}
AreInTime t (x ∷ xs) = (reading_misfits (come_to x t) x (lows_of x (come_to x t).place) (drive_of x (come_to x t).place) ≡ []) × (drive_of x (come_to x t).place ≡ None) × (drive_within (lows_of x (come_to x t).place) ≡ None) × AreInTime (after x t) xs

-- what it remarks of the free time before a frame asks for more than the shortest, three bit periods
abbrev pub AsksForMore : Option TooSoon → Type 0
AsksForMore None = Unit {0}
AsksForMore (Some s) = free_time_of Retry < s.due

abbrev pub AreFree : Tape → List Listed → Type 0
AreFree t [] = Unit {0}
AreFree t (x ∷ xs) = AsksForMore (too_soon (come_to x t).previous x (tries_again (come_to x t).attempts x.reported.bits)) × AreFree (after x t) xs

abbrev pub KeepsTimes : Captured → Type 0
KeepsTimes c = AreInTime (first_tape c.edges) (readings_of (line_of_edges c.edges) c.end) × AreFree (first_tape c.edges) (readings_of (line_of_edges c.edges) c.end)

-- The line of a run without pulses, within the limit of scripts and written in any format, is read as a capture of which an audit
-- remarks no width, no low drive, and of free times none but what asks for five or seven bit periods.
abbrev pub RunsKeepTheirTimes : Type 0
RunsKeepTheirTimes = (format : CaptureForm) (tree : List Node) (events : List TimedEvent) (end : ℕ) (text : List ℕ) (totals : Totals)
    → AreFramedEvents events → IsRunText (Line format) end (start (first_net tree []) events) text totals → end ≤ latest_event
    → (c : Captured) × IsReadText format text c × KeepsTimes c
