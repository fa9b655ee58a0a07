-- What is said of a reading, part by part (own).
use Rattle.std.specs.Prelude.{ℕ, ◌+◌, ◌/◌, ◌==◌, Bool, true, false, ◌&&◌, ◌||◌, is_some, if◌then◌else◌, List, [], ◌∷◌, ◌++◌, length, Option, Some, None, option_map}
use Rattle.line_frames.specs.declared.Ending.{Ending as EndingOf}
use Rattle.line_reading.specs.Readings.{Listed}
use Rattle.audit_judged.specs.declared.widths.Party.TheVariants.{Initiator}
use Rattle.audit_widths.specs.declared.low.Low.{Low}
use Rattle.audit_widths.specs.declared.spread.Spread.{Spread}
use Rattle.audit_widths.specs.declared.spread.Widths.{Widths}
use Rattle.audit_widths.specs.declared.misfit.Misfit.{Misfit as MisfitOf}
use Rattle.audit_widths.specs.Misfits.{drive_within, low_misfit, total_misfit}
use Rattle.audit_remarks.specs.declared.counts.FrameCount.{FrameCount}
use Rattle.audit_remarks.specs.declared.requests.Request.{Request}
use Rattle.audit_remarks.specs.declared.sources.Mention.{Mention}
use Rattle.audit_judged.specs.declared.endings.Said.{Said}
use Rattle.audit_judged.specs.declared.endings.Said.TheVariants.{Nothing, Allowed, Remarked}
use Rattle.audit_remarks.specs.Endings.{initiator_read, is_stray, party_of}
use Rattle.audit_remarks.specs.Header.{stops_untaken}
use Rattle.audit_remarks.specs.Requests.{is_answer, is_given_up, is_late, waited}
use Rattle.audit_remarks.specs.Sources.{is_unreported}
use Rattle.audit_notes.specs.Lines.{AuditLine}
use Rattle.audit_notes.specs.Lines.AuditLine.{Note, Word}
use Rattle.audit_notes.specs.declared.note.AuditNote.{AuditNote}
use Rattle.audit_notes.specs.declared.note.AuditNote.TheVariants.{Cause, Ending, GoesOn, LateAnswer, Misfit, NoAnswer, Sender, Unreported, Widths as WidthsNote}
use Rattle.audit_notes.specs.declared.note.SpreadKind.{SpreadKind}
use Rattle.audit_notes.specs.declared.note.SpreadKind.TheVariants as spreads
use Rattle.audit_notes.specs.declared.note.WidthSummary.{WidthSummary}
use Rattle.audit_core.specs.declared.lines.LastSlot.{LastSlot}
use Rattle.audit_core.specs.declared.lines.LastSlot.TheVariants.{Own, Followed, Driven}

-- a note, if there is one
abbrev pub noted : Option AuditNote → List AuditLine
noted None = []
noted (Some note) = Note note ∷ []

-- what the standard calls an opcode or an operand that a reading leaves as bytes
abbrev pub named_lines : Option (List ℕ) → List AuditLine
named_lines None = []
named_lines (Some name) = Word name ∷ []

-- ---- times

-- the last slot, which something else follows, or within which a low drive of this width begins
abbrev pub last_by : Bool → Option ℕ → LastSlot
last_by followed (Some width) = Driven
last_by true None = Followed
last_by false None = Own

-- A low drive of this width follows it, or a block that was not taken is the frame's end: what comes after that is another frame, of
-- which the signal free time is due (CEC 7.1, 9.1).
abbrev pub is_followed : Option ℕ → Listed → Bool
is_followed drive x = is_some drive || stops_untaken x.reported.ending x.reported.bits

-- what is no start bit is one low, and what comes after it has nothing to do with it
abbrev pub last_of : Option ℕ → Listed → List Low → LastSlot
last_of drive x lows = if is_stray x lows then Followed else last_by (is_followed drive x) (drive_within lows)

-- a slot before so many others
abbrev pub slot_by : LastSlot → ℕ → LastSlot
slot_by last left = if left == 0 then last else Own

abbrev pub slot_low : LastSlot → List Bool → ℕ → Low → Option MisfitOf
slot_low Own bits slot low = low_misfit bits slot low
slot_low Followed bits slot low = low_misfit bits slot low
slot_low Driven bits slot low = None

abbrev pub slot_total : LastSlot → EndingOf → List Bool → ℕ → Low → Option MisfitOf
slot_total Own ending bits slot low = total_misfit ending bits slot low
slot_total _ ending bits slot low = None

-- the widths that are out of their windows, of the slots from one on; slot 0 is the start bit
abbrev pub misfit_lines : LastSlot → EndingOf → List Bool → ℕ → List Low → List AuditLine
misfit_lines last ending bits slot [] = []
misfit_lines last ending bits slot (low ∷ lows) =
    noted (option_map Misfit (slot_low (slot_by last (length lows)) bits slot low)) ++ noted (option_map Misfit (slot_total (slot_by last (length lows)) ending bits slot low))
    ++ misfit_lines last ending bits (slot + 1) lows

-- ---- endings

abbrev pub ending_note : List Bool → Said → Option AuditNote
ending_note bits Nothing = None
ending_note bits (Allowed cause) = Some (Cause cause)
ending_note bits (Remarked r) = Some (Ending r (party_of bits r))

abbrev pub goes_on_note : List Bool → Option ℕ → Option AuditNote
goes_on_note bits None = None
goes_on_note bits (Some block) = Some (GoesOn block (Initiator (initiator_read bits)))

-- ---- active sources that nobody reported

abbrev pub unless_reported : List Mention → Mention → List AuditLine
unless_reported reported m = if is_unreported reported m.phys then Note (Unreported m) ∷ [] else []

abbrev pub claims_lines : List Mention → List Mention → List AuditLine
claims_lines reported [] = []
claims_lines reported (m ∷ ms) = unless_reported reported m ++ claims_lines reported ms

-- ---- requests that were not answered

-- by an instant
abbrev pub if_late : ℕ → Request → List AuditLine
if_late begin r = if is_late begin r then Note (NoAnswer r) ∷ [] else []

abbrev pub late_lines : ℕ → List Request → List AuditLine
late_lines begin [] = []
late_lines begin (r ∷ rs) = if_late begin r ++ late_lines begin rs

-- By a reading that begins then, with the frame that it delivered, and the one that was sent, whose first attempt began at `first`: that
-- one may answer it, in a second at most (CEC 9.2).
abbrev pub if_answered : ℕ → Request → List AuditLine
if_answered begin r = if is_late begin r then Note (LateAnswer (waited begin r)) ∷ [] else []

abbrev pub if_given_up : ℕ → List ℕ → Request → List AuditLine
if_given_up begin frame r = if is_given_up begin frame r then Note (NoAnswer r) ∷ [] else []

abbrev pub answer_lines : ℕ → List ℕ → ℕ → List ℕ → Request → List AuditLine
answer_lines first sent begin frame r = if is_answer first sent r then if_answered first r else if_given_up begin frame r

abbrev pub answers_lines : ℕ → List ℕ → ℕ → List ℕ → List Request → List AuditLine
answers_lines first sent begin frame [] = []
answers_lines first sent begin frame (r ∷ rs) = answer_lines first sent begin frame r ++ answers_lines first sent begin frame rs

-- ---- widths

-- the mean is rounded down; nothing where there is none
abbrev pub summary_of : Spread → WidthSummary
summary_of s = record { least = s.least; greatest = s.greatest; mean = s.sum / s.count; count = s.count }

abbrev pub spread_lines : SpreadKind → Spread → List AuditLine
spread_lines kind s = if s.count == 0 then [] else Note (WidthsNote kind (summary_of s)) ∷ []

abbrev pub widths_lines : Widths → List AuditLine
widths_lines w =
    spread_lines spreads.StartLow w.start_low ++ spread_lines spreads.StartTotal w.start_total ++ spread_lines spreads.OneLow w.one_low
    ++ spread_lines spreads.ZeroLow w.zero_low ++ spread_lines spreads.BitTotal w.total

abbrev pub timing_lines : Bool → Widths → List AuditLine
timing_lines true w = widths_lines w
timing_lines false w = []

-- ---- frames of each initiator

-- nothing of who sent none
abbrev pub count_lines : ℕ → FrameCount → List AuditLine
count_lines initiator c = if (c.taken == 0) && ((c.untaken == 0) && (c.broken == 0)) then [] else Note (Sender initiator c) ∷ []

-- of the initiators from one on
abbrev pub counts_lines : ℕ → List FrameCount → List AuditLine
counts_lines initiator [] = []
counts_lines initiator (c ∷ counts) = count_lines initiator c ++ counts_lines (initiator + 1) counts
