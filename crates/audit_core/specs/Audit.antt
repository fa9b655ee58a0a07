-- The audit of a capture: below the line of each reading what there is to remark, in order, and at the end the widths of
-- all readings (own).
use Rattle.std.specs.Prelude.{◌≡◌, ℕ, Bool, ◌||◌, is_some, if◌then◌else◌, List, [], ◌∷◌, ◌++◌, map, Option, Some, None, option_map}
use Rattle.text_core.specs.declared.phys.Phys.{Phys}
use Rattle.line_wave.specs.declared.Edge.{Edge}
use Rattle.line_frames.specs.declared.Ending.{Ending}
use Rattle.line_frames.specs.declared.Ending.TheVariants.{Open}
use Rattle.line_reading.specs.Readings.{Listed, readings_of}
use Rattle.line_reading.specs.Reports.{listed_as}
use Rattle.capture_core.specs.Edges.{Captured, line_of_edges}
use Rattle.audit_widths.specs.declared.low.Low.{Low}
use Rattle.audit_widths.specs.declared.spread.Widths.{Widths}
use Rattle.audit_widths.specs.Lows.{first_low, gone_to, lows_before, place_of}
use Rattle.audit_widths.specs.Misfits.{drive_within, low_drive}
use Rattle.audit_widths.specs.Spreads.{no_widths, sum_of, with_slots}
use Rattle.line_frames.specs.Blocks.{frame_in}
use Rattle.message_hex.specs.Remark.{remark}
use Rattle.capture_monitor.specs.Watch.{listed_line, reading_as, readings_text}
use Rattle.audit_remarks.specs.declared.attempts.Attempts.{Attempts}
use Rattle.audit_core.specs.declared.auditor.Auditor.{Auditor}
use Rattle.audit_core.specs.declared.heard.Heard.{Heard}
use Rattle.audit_core.specs.declared.whole.WholeAudit.{WholeAudit}
use Rattle.audit_remarks.specs.declared.counts.FrameCount.{FrameCount}
use Rattle.audit_remarks.specs.declared.free.Previous.{Previous}
use Rattle.audit_remarks.specs.declared.requests.Request.{Request}
use Rattle.audit_remarks.specs.declared.series.BadStartSeries.{BadStartSeries}
use Rattle.audit_remarks.specs.declared.sources.Sources.{Sources}
use Rattle.audit_remarks.specs.Attempts.{after_attempt, failure_of, first_of, no_attempts, tries_again}
use Rattle.audit_remarks.specs.Counts.{no_counts, with_reading}
use Rattle.audit_remarks.specs.Frames.{delivered_frame, sender, sent_frame}
use Rattle.audit_remarks.specs.Endings.{ending_of, goes_on_after, is_measured, last_says}
use Rattle.audit_remarks.specs.Free.{free_before, no_previous, previous_with, too_soon}
use Rattle.audit_core.specs.Lines.{answers_lines, claims_lines, counts_lines, ending_note, goes_on_note, last_of, late_lines, misfit_lines, named_lines, noted, timing_lines, widths_lines}
use Rattle.audit_notes.specs.Lines.{AuditLine, lines_text}
use Rattle.audit_notes.specs.Lines.AuditLine.{Note, Reading}
use Rattle.audit_notes.specs.declared.note.AuditNote.TheVariants as notes
use Rattle.record_core.specs.declared.cell.Form.TheVariants.{Text}
use Rattle.audit_remarks.specs.Header.{head_read, unfinished}
use Rattle.audit_remarks.specs.Messages.{missed_receivers, missing_operands}
use Rattle.audit_remarks.specs.Places.{moved_from, no_places, with_places}
use Rattle.audit_remarks.specs.Requests.{after_frame}
use Rattle.audit_remarks.specs.Series.{after_start, no_series, series_over}
use Rattle.audit_remarks.specs.Sources.{no_sources, with_sources}

-- ---- what is kept of the readings so far

pub record Tape : Type 0 where
  pub place : List Edge
  pub previous : Previous
  pub attempts : Attempts
  pub series : BadStartSeries
  pub waiting : List Request
  pub places : List (Option Phys)
  pub sources : Sources
  pub counts : List FrameCount
  pub widths : Widths

-- of a capture of which these edges are left
abbrev pub tape_at : List Edge → Auditor → Tape
tape_at edges a = record { place = edges; previous = a.previous; attempts = a.attempts; series = a.series; waiting = a.waiting.items; places = a.places; sources = a.sources; counts = a.counts; widths = a.widths }

abbrev pub tape_of : WholeAudit → Tape
tape_of w = tape_at (place_of w.cursor) w.auditor

-- before all readings of a capture
abbrev pub first_tape : List Edge → Tape
first_tape edges = record { place = edges; previous = no_previous; attempts = no_attempts; series = no_series; waiting = []; places = no_places; sources = no_sources; counts = no_counts; widths = no_widths }

-- its edges are passed over up to the fall of a reading
abbrev pub come_to : Listed → Tape → Tape
come_to x t = record t { place = gone_to x.begin t.place }

-- ---- a reading

-- its slots fall before it ended; what is open has those up to the capture's end
abbrev pub falls_until : Ending → ℕ → ℕ
falls_until Open at = sum_of at 1
falls_until _ at = at

abbrev pub lows_of : Listed → List Edge → List Low
lows_of x edges = lows_before (falls_until x.reported.ending x.reported.at) edges

-- a reading that is heard has its low stretches, and the frames that it delivers and that were sent
pub record IsHeard (h : Heard) : Type 0 where
  pub lows : h.lows.now.items ≡ lows_of (listed_as h.reading.now) h.edges.now
  pub frame : h.frame.items ≡ delivered_frame (listed_as h.reading.now)
  pub sent : h.sent.items ≡ sent_frame (listed_as h.reading.now)

-- the low drive that may follow it
abbrev pub drive_by : Ending → Option Low → Option ℕ
drive_by ending None = None
drive_by ending (Some low) = low_drive ending low

abbrev pub drive_of : Listed → List Edge → Option ℕ
drive_of x edges = drive_by x.reported.ending (first_low (gone_to x.reported.at edges))

-- the widths that are out of their windows, and that no low drive makes
abbrev pub reading_misfits : Tape → Listed → List Low → Option ℕ → List AuditLine
reading_misfits t x lows drive =
    if is_measured t.previous t.series x lows then misfit_lines (last_of drive x lows) x.reported.ending x.reported.bits 0 lows else []

-- the block after which it breaks off, where no low drive and no width breaks it
abbrev pub unfinished_of : Listed → List Low → Option ℕ
unfinished_of x lows =
    if is_some (drive_within lows) || last_says x.reported.ending x.reported.bits 0 lows then None else unfinished x.reported.ending x.reported.bits

-- where the first attempt at its frame began
abbrev pub first_begin : Tape → Listed → ℕ
first_begin t x = first_of t.attempts x.begin (free_before t.previous x.begin) x.reported.bits

-- what there is to remark of what was before it, of its times and its blocks, by its low stretches and the low drive that follows
abbrev pub times_lines : Tape → Listed → List Low → Option ℕ → List AuditLine
times_lines t x lows drive =
    noted (option_map notes.BadStarts (series_over t.series x.reported.ending)) ++ answers_lines (first_begin t x) (sent_frame x) x.begin (delivered_frame x) t.waiting
    ++ noted (option_map notes.Free (too_soon t.previous x (tries_again t.attempts x.reported.bits))) ++ reading_misfits t x lows drive ++ noted (option_map notes.LowDrive drive)
    ++ noted (option_map notes.DriveWithin (drive_within lows)) ++ noted (option_map notes.Unfinished (unfinished_of x lows))
    ++ noted (option_map notes.Attempt (failure_of t.attempts x.begin (free_before t.previous x.begin) x.reported.bits))
    ++ noted (goes_on_note x.reported.bits (goes_on_after x.reported.bits)) ++ noted (ending_note x.reported.bits (ending_of t.previous t.series drive x lows))

-- what the standard calls what the line leaves as bytes
abbrev pub named_in : Option (List ℕ) → Option (List ℕ)
named_in None = None
named_in (Some frame) = remark frame

abbrev pub named_of : Listed → Option (List ℕ)
named_of x = named_in (frame_in (reading_as x))

-- what was read, in words
abbrev pub read_lines : Listed → List AuditLine
read_lines x = noted (option_map notes.Read (head_read x.reported.ending x.reported.bits)) ++ named_lines (named_of x)

-- of what it says
abbrev pub frame_lines : Tape → List ℕ → List AuditLine
frame_lines t frame =
    noted (option_map (notes.Moved (sender frame)) (moved_from frame t.places)) ++ noted (option_map notes.Receivers (missed_receivers frame)) ++ noted (option_map notes.Operands (missing_operands frame))

-- what there is to remark, in order
abbrev pub remarks_by : Bool → Tape → Listed → List Low → Option ℕ → List AuditLine
remarks_by timing t x lows drive =
    read_lines x ++ times_lines t x lows drive ++ frame_lines t (delivered_frame x) ++ timing_lines timing (with_slots x.reported.ending x.reported.bits 0 lows no_widths)

abbrev pub remark_lines : Bool → Tape → Listed → List AuditLine
remark_lines timing t x = remarks_by timing t x (lows_of x t.place) (drive_of x t.place)

abbrev pub remarks_text : Bool → Tape → Listed → List ℕ
remarks_text timing t x = lines_text Text (remark_lines timing t x)

-- what is kept of it, of these low stretches
abbrev pub tape_by : List Low → Listed → Tape → Tape
tape_by lows x t = record {
  place = t.place;
  previous = previous_with t.previous x lows;
  attempts = after_attempt t.attempts x (free_before t.previous x.begin);
  series = after_start t.series x.reported.ending x.begin;
  waiting = after_frame (first_begin t x) (sent_frame x) x.begin x.reported.at (delivered_frame x) t.waiting;
  places = with_places (delivered_frame x) t.places;
  sources = with_sources (delivered_frame x) x.reported.at t.sources;
  counts = with_reading x.reported.ending x.reported.bits t.counts;
  widths = with_slots x.reported.ending x.reported.bits 0 lows t.widths;
}

abbrev pub tape_after : Listed → Tape → Tape
tape_after x t = tape_by (lows_of x t.place) x t

-- its line, and what there is to remark
abbrev pub line_and_remarks : Bool → Tape → Listed → List ℕ
line_and_remarks timing t x = listed_line x ++ remarks_text timing (come_to x t) x

abbrev pub after : Listed → Tape → Tape
after x t = tape_after x (come_to x t)

-- ---- readings, one after another

abbrev pub after_all : Tape → List Listed → Tape
after_all t [] = t
after_all t (x ∷ xs) = after_all (after x t) xs

abbrev pub reported_all : Bool → Tape → List Listed → List ℕ
reported_all timing t [] = []
reported_all timing t (x ∷ xs) = line_and_remarks timing t x ++ reported_all timing (after x t) xs

-- what there is to say of all readings up to an end: the requests that were not answered, the addresses that nobody reported,
-- the frames of each initiator, and the widths
abbrev pub summary_lines : ℕ → Tape → List AuditLine
summary_lines end t =
    (Note notes.Summary ∷ []) ++ late_lines end t.waiting ++ claims_lines t.sources.reported.items t.sources.active.items ++ counts_lines 0 t.counts ++ widths_lines t.widths

abbrev pub summary_text : ℕ → Tape → List ℕ
summary_text end t = lines_text Text (summary_lines end t)

-- the whole of a capture: these readings, one after another, and what there is to say of all
abbrev pub audit_text_of : Bool → Captured → List Listed → List ℕ
audit_text_of timing c xs = reported_all timing (first_tape c.edges) xs ++ summary_text c.end (after_all (first_tape c.edges) xs)

-- its readings by the standard's windows
abbrev pub audit_text : Bool → Captured → List ℕ
audit_text timing c = audit_text_of timing c (readings_of (line_of_edges c.edges) c.end)

-- ---- the same as lines

abbrev pub heard_lines : Bool → Tape → Listed → List AuditLine
heard_lines timing t x = Reading x ∷ remark_lines timing (come_to x t) x

abbrev pub heard_all : Bool → Tape → List Listed → List AuditLine
heard_all timing t [] = []
heard_all timing t (x ∷ xs) = heard_lines timing t x ++ heard_all timing (after x t) xs

abbrev pub audit_lines : Bool → Captured → List Listed → List AuditLine
audit_lines timing c xs = heard_all timing (first_tape c.edges) xs ++ summary_lines c.end (after_all (first_tape c.edges) xs)

-- The text of readings is that of their lines.
abbrev pub ReadingsAreLines : Type 0
ReadingsAreLines = (xs : List Listed) → lines_text Text (map Reading xs) ≡ readings_text xs

-- The text of the lines of an audit is that of the audit.
abbrev pub AuditsAreLines : Type 0
AuditsAreLines = (timing : Bool) (c : Captured) (xs : List Listed) → lines_text Text (audit_lines timing c xs) ≡ audit_text_of timing c xs
