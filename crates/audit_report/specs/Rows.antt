-- What is told of one logical address, and what is counted of it (own).
use Rattle.std.specs.Prelude.{ℕ, ◌==◌, Bool, nat_lt, if◌then◌else◌, List}
use Rattle.line_frames.specs.FreeTime.{free_time_of}
use Rattle.line_frames.specs.declared.Ending.{Ending}
use Rattle.line_frames.specs.declared.free_time.FreeTime.{FreeTime}
use Rattle.line_frames.specs.declared.free_time.FreeTime.TheVariants.{Retry, NewInitiator, PresentInitiator}
use Rattle.audit_widths.specs.declared.low.Low.{Low}
use Rattle.audit_widths.specs.Spreads.{no_widths, none, sum_of, with_width}
use Rattle.audit_remarks.specs.Counts.{no_count}
use Rattle.audit_remarks.specs.declared.attempts.Failure.{Failure}
use Rattle.audit_remarks.specs.declared.free.FreeTaken.{FreeTaken}
use Rattle.audit_remarks.specs.declared.free.TooSoon.{TooSoon}
use Rattle.audit_notes.specs.Kinds.{is_remark}
use Rattle.audit_notes.specs.Notes.{kind_of}
use Rattle.audit_notes.specs.declared.note.AuditNote.{AuditNote}
use Rattle.audit_notes.specs.declared.note.AuditNote.TheVariants.{NoAnswer, LateAnswer, Free, Misfit, Attempt, Sender}
use Rattle.audit_report.specs.Kinds.{no_kinds, with_kind}
use Rattle.audit_report.specs.Widths.{with_out, with_own, with_taken}
use Rattle.audit_report.specs.declared.row.FreeColumn.{FreeColumn}
use Rattle.audit_report.specs.declared.row.FreeTimes.{FreeTimes}
use Rattle.audit_report.specs.declared.row.Row.{Row}
use Rattle.audit_report.specs.declared.widths.WidthOuts.{WidthOuts}

-- a reading of its frame and of a frame to it, with what is measured of their low stretches; the free time before a frame of it; how
-- long an answer of it took; and what the audit says that it can be charged with
pub data Told : Type 0 where
  Sent : Ending → List Bool → List Low → Told
  Took : Ending → List Bool → List Low → Told
  Waited : FreeTaken → Told
  Answered : ℕ → Told
  Noted : AuditNote → Told

-- ---- before all of it

abbrev pub no_outs : WidthOuts
no_outs = record { start_low = 0; start_total = 0; one_low = 0; zero_low = 0; total = 0; ack_low = 0 }

abbrev pub no_column : FreeColumn
no_column = record { taken = none; short = 0 }

abbrev pub no_times : FreeTimes
no_times = record { retry = no_column; new_initiator = no_column; present_initiator = no_column }

abbrev pub no_row : Row
no_row = record {
  frames = no_count;
  past = 0;
  widths = no_widths;
  acks = no_widths;
  outs = no_outs;
  free = no_times;
  answers = none;
  late = 0;
  missing = 0;
  remarks = no_kinds;
}

-- ---- free times, by which one was due (CEC 9.1)

abbrev pub with_time : ℕ → FreeColumn → FreeColumn
with_time free c = record c { taken = with_width free c.taken }

abbrev pub with_time_due : FreeTime → ℕ → FreeTimes → FreeTimes
with_time_due Retry free t = record t { retry = with_time free t.retry }
with_time_due NewInitiator free t = record t { new_initiator = with_time free t.new_initiator }
with_time_due PresentInitiator free t = record t { present_initiator = with_time free t.present_initiator }

abbrev pub with_taken_time : FreeTaken → FreeTimes → FreeTimes
with_taken_time f t = with_time_due f.due f.free t

abbrev pub one_short : FreeColumn → FreeColumn
one_short c = record c { short = sum_of c.short 1 }

abbrev pub with_short : TooSoon → FreeTimes → FreeTimes
with_short s t =
    if s.due == free_time_of Retry then record t { retry = one_short t.retry }
    else if s.due == free_time_of NewInitiator then record t { new_initiator = one_short t.new_initiator }
    else record t { present_initiator = one_short t.present_initiator }

-- ---- what the audit says

-- past the sixth attempt, the first and five more (CEC 7.1)
abbrev pub with_attempt : Failure → Row → Row
with_attempt f r = if nat_lt 6 f.attempt then record r { past = sum_of r.past 1 } else r

-- besides its kind
abbrev pub with_column : AuditNote → Row → Row
with_column (Misfit m) r = record r { outs = with_out m r.outs }
with_column (Free s) r = record r { free = with_short s r.free }
with_column (LateAnswer wait) r = record r { late = sum_of r.late 1 }
with_column (NoAnswer request) r = record r { missing = sum_of r.missing 1 }
with_column (Attempt f) r = with_attempt f r
with_column (Sender initiator c) r = record r { frames = c }
with_column _ r = r

abbrev pub with_kind_of : AuditNote → Row → Row
with_kind_of note r = if is_remark (kind_of note) then record r { remarks = with_kind (kind_of note) r.remarks } else r

-- ---- one more

abbrev pub with_told : Told → Row → Row
with_told (Sent ending bits lows) r = record r { widths = with_own ending bits 0 lows r.widths }
with_told (Took ending bits lows) r = record r { acks = with_taken ending bits 0 lows r.acks }
with_told (Waited f) r = record r { free = with_taken_time f r.free }
with_told (Answered wait) r = record r { answers = with_width wait r.answers }
with_told (Noted note) r = with_kind_of note (with_column note r)
