-- What is said of times and blocks, part by part.
use Rattle.std.proofs.Common.{◌≡◌, ℕ, List, ◌++◌, Option, option_map, refl}
use Rattle.line_reading.specs.Readings.{Listed}
use Rattle.audit_widths.specs.declared.low.Low.{Low}
use Rattle.audit_widths.specs.Misfits.{drive_within}
use Rattle.audit_remarks.specs.declared.requests.Request.{Request}
use Rattle.audit_remarks.specs.Attempts.{failure_of, tries_again}
use Rattle.audit_remarks.specs.Frames.{delivered_frame, sent_frame}
use Rattle.audit_remarks.specs.Free.{free_before, too_soon}
use Rattle.audit_remarks.specs.Series.{series_over}
use Rattle.audit_notes.specs.declared.note.AuditNote.{AuditNote}
use Rattle.audit_notes.specs.declared.note.AuditNote.TheVariants as notes
use Rattle.audit_remarks.specs.Endings.{ending_of, goes_on_after}
use Rattle.audit_core.specs.Lines.{answers_lines, ending_note, goes_on_note, noted}
use Rattle.audit_core.specs.Audit.{Tape, first_begin, reading_misfits, times_lines, unfinished_of}

pub times_are : (t : Tape) (x : Listed) (lows : List Low) (drive : Option ℕ) (first : ℕ) (sent frame : List ℕ) (waiting : List Request) (series soon low within block attempt goes ending : Option AuditNote)
    → first ≡ first_begin t x → sent ≡ sent_frame x → frame ≡ delivered_frame x → waiting ≡ t.waiting → series ≡ option_map notes.BadStarts (series_over t.series x.reported.ending) → soon ≡ option_map notes.Free (too_soon t.previous x (tries_again t.attempts x.reported.bits))
    → low ≡ option_map notes.LowDrive drive → within ≡ option_map notes.DriveWithin (drive_within lows) → block ≡ option_map notes.Unfinished (unfinished_of x lows)
    → attempt ≡ option_map notes.Attempt (failure_of t.attempts x.begin (free_before t.previous x.begin) x.reported.bits) → goes ≡ goes_on_note x.reported.bits (goes_on_after x.reported.bits)
    → ending ≡ ending_note x.reported.bits (ending_of t.previous t.series drive x lows)
    → noted series ++ answers_lines first sent x.begin frame waiting ++ noted soon ++ reading_misfits t x lows drive ++ noted low ++ noted within ++ noted block ++ noted attempt ++ noted goes ++ noted ending ≡ times_lines t x lows drive
times_are t x lows drive first sent frame waiting series soon low within block attempt goes ending k s f w a b c d e g i h = rw (k, s, f, w, a, b, c, d, e, g, i, h) refl
