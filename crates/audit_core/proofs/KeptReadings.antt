-- The remarks of an audit are lines that begin with two spaces.
use Rattle.std.proofs.Common.{◌≡◌, ℕ, ◌+◌, ◌/◌, ◌%◌, ◌==◌, ◌-◌, ◌&&◌, Bool, true, false, not, nat_lt, if◌then◌else◌, List, [], ◌∷◌, ◌++◌, length, Option, None, Some, option_and_then, option_map, slice_get, codes, refl, sym, ap, subst, ◌∙◌, append-nil, append_assoc}
use Rattle.std.specs.Fmt.{decimal}
use Rattle.std.specs.List.{flat_map, list_all}
use Rattle.std.proofs.lemmas.Grind.{flat_map-append}
use Rattle.text_core.specs.declared.phys.Phys.{Phys}
use Rattle.text_core.specs.Piece.{hex_text, nibble_text, phys_text}
use Rattle.line_frames.specs.declared.Ending.{Ending}
use Rattle.line_reading.specs.Readings.{Listed, readings_of}
use Rattle.capture_core.specs.Edges.{Captured, line_of_edges}
use Rattle.audit_widths.specs.declared.low.Low.{Low as LowOf}
use Rattle.audit_widths.specs.declared.misfit.SlotWidth.{SlotWidth}
use Rattle.audit_widths.specs.declared.misfit.SlotWidth.TheVariants.{Low, Total}
use Rattle.audit_widths.specs.declared.misfit.Misfit.{Misfit}
use Rattle.audit_widths.specs.declared.spread.Spread.{Spread}
use Rattle.audit_widths.specs.declared.spread.Widths.{Widths}
use Rattle.audit_widths.specs.Misfits.{drive_within, fits, window}
use Rattle.audit_widths.specs.Spreads.{no_widths, with_slots}
use Rattle.audit_remarks.specs.declared.attempts.Failure.{Failure}
use Rattle.audit_remarks.specs.declared.counts.FrameCount.{FrameCount}
use Rattle.audit_remarks.specs.declared.header.FrameHead.{FrameHead}
use Rattle.audit_remarks.specs.declared.messages.Receivers.{Receivers}
use Rattle.audit_remarks.specs.declared.messages.Receivers.TheVariants.{OneDevice, AllDevices}
use Rattle.audit_remarks.specs.declared.requests.Request.{Request}
use Rattle.audit_remarks.specs.declared.sources.Mention.{Mention}
use Rattle.audit_remarks.specs.Attempts.{failure_of, tries_again}
use Rattle.audit_remarks.specs.Endings.{ending_of, goes_on_after, is_measured}
use Rattle.audit_remarks.specs.Frames.{delivered_frame, sender, sent_frame}
use Rattle.audit_remarks.specs.Free.{free_before, too_soon}
use Rattle.audit_remarks.specs.Header.{head_read}
use Rattle.audit_remarks.specs.Messages.{missed_receivers, missing_operands}
use Rattle.audit_remarks.specs.Places.{moved_from}
use Rattle.audit_remarks.specs.Requests.{is_answer, is_given_up, is_late}
use Rattle.audit_remarks.specs.Series.{series_over}
use Rattle.audit_remarks.specs.Sources.{is_unreported}
use Rattle.message_hex.specs.Remark.{abort_reasons, audio_rates, deck_states, device_types, first_of, more_names, more_words, operand_remark, place_of, play_modes, powers, record_sources, record_states, timer_cleared, tuner_requests, user_controls, versions}
use Rattle.message_table.specs.WordSets.{NamedByte, word_of}
use Rattle.message_text.specs.FrameText.{opcode_text}
use Rattle.line_frames.specs.Blocks.{frame_in}
use Rattle.capture_monitor.specs.Watch.{reading_as}
use Rattle.record_core.specs.Cells.{PlainCell, both, hidden}
use Rattle.record_core.specs.Values.{nothing, number, text}
use Rattle.record_core.specs.Records.{line_of, said}
use Rattle.record_core.specs.declared.cell.Form.TheVariants.{Text}
use Rattle.audit_notes.specs.Lines.{AuditLine, line_text, lines_text}
use Rattle.audit_notes.specs.Lines.AuditLine.{Group, Note, Reading, Word}
use Rattle.audit_notes.specs.Notes.{bad_drive_cells, bit_cells, cells_by, good_drive_cells, header_cells, misfit_kind_at, note_text, opcode_cell, spread_name, start_cells, verdict_lead, verdict_name, width_cells, width_lead, word_text}
use Rattle.audit_notes.specs.declared.kind.NoteKind.TheVariants as kinds
use Rattle.audit_notes.specs.declared.note.AuditNote.{AuditNote}
use Rattle.audit_notes.specs.declared.note.AuditNote.TheVariants as notes
use Rattle.audit_notes.specs.declared.note.SpreadKind.{SpreadKind}
use Rattle.audit_notes.specs.declared.note.SpreadKind.TheVariants as spreads
use Rattle.audit_core.specs.declared.lines.LastSlot.{LastSlot}
use Rattle.audit_core.specs.Lines.{answer_lines, answers_lines, claims_lines, count_lines, counts_lines, ending_note, goes_on_note, if_answered, if_given_up, if_late, last_of, late_lines, misfit_lines, named_lines, noted, slot_by, slot_low, slot_total, spread_lines, timing_lines, unless_reported, widths_lines}
use Rattle.audit_core.specs.Audit.{Tape, after, after_all, audit_text, come_to, drive_of, first_begin, first_tape, frame_lines, heard_all, lows_of, named_in, named_of, read_lines, reading_misfits, remark_lines, remarks_text, reported_all, summary_lines, summary_text, times_lines, line_and_remarks, unfinished_of}
use Rattle.audit_core.proofs.EndingLines.{cause_remark, ending_remark, goes_on_remark}
use Rattle.audit_core.proofs.OneLine.{plain_opcode, worded}
use Rattle.audit_core.proofs.Plain.{plain_codes, plain_decimal, plain_hex, plain_more, plain_nibble, plain_phys}
use Rattle.audit_core.specs.Kept.{AllRemarks, AreKept, AreRemarks, IsClosed, IsPlain, IsRemark, PlainIf, shown}

-- ---- lines, one after another

no_remarks : AreRemarks []
no_remarks = record { lines = []; each = tt; same = refl }

one_remark : (line : List ℕ) → IsRemark line → AreRemarks line
one_remark line h = record { lines = line ∷ []; each = (h, tt); same = sym (append-nil line) }

all_more : (xs ys : List (List ℕ)) → AllRemarks xs → AllRemarks ys → AllRemarks (xs ++ ys)
all_more [] ys h k = k
all_more (x ∷ xs) ys h k = (h.0, all_more xs ys h.1 k)

more_remarks : {a b : List ℕ} → AreRemarks a → AreRemarks b → AreRemarks (a ++ b)
more_remarks {a} {b} x y = record {
  lines = x.lines ++ y.lines;
  each = all_more x.lines y.lines x.each y.each;
  same = ap (λ (l : List ℕ). l ++ b) x.same ∙ ap (λ (l : List ℕ). flat_map (λ (line : List ℕ). line) x.lines ++ l) y.same ∙ sym (flat_map-append (λ (line : List ℕ). line) x.lines y.lines);
}

-- ---- the line of each kind

-- a text without a line feed
abbrev Line : Type 0
Line = (xs : List ℕ) × IsPlain xs

abbrev none : Line
none = ([], tt)

-- a line feed ends it
ends : (line : Line) → IsClosed (line.0 ++ 10 ∷ [])
ends line = record { rest = line.0; same = refl; plain = line.1 }

-- a word before the rest, and with what stands before it
abbrev first : (w : List ℕ) → IsPlain w → Line → Line
first w k rest = (w ++ rest.0, plain_more w rest.0 k rest.1)

abbrev led : (lead w : List ℕ) → list_all (λ c. not (c == 10)) lead ≡ true → IsPlain w → Line → Line
led lead w h k rest = first (lead ++ w) (plain_more lead w (plain_codes lead h) k) rest

abbrev num : (lead : List ℕ) (n : ℕ) → list_all (λ c. not (c == 10)) lead ≡ true → Line → Line
num lead n h rest = led lead (decimal n) h (plain_decimal n) rest

abbrev nib : (lead : List ℕ) (n : ℕ) → list_all (λ c. not (c == 10)) lead ≡ true → Line → Line
nib lead n h rest = led lead (nibble_text (n % 16)) h (plain_nibble (n % 16)) rest

abbrev alone : (words : List ℕ) → list_all (λ c. not (c == 10)) words ≡ true → Line → Line
alone words h rest = led words [] h tt rest

plain_lead : (k : SlotWidth) → list_all (λ c. not (c == 10)) (width_lead k) ≡ true
plain_lead Low = refl
plain_lead Total = refl

abbrev width_line : (m : Misfit) → Line
width_line m = num (width_lead m.kind) m.micros (plain_lead m.kind) (num (codes " not ") m.window.least refl (num (codes "..") m.window.greatest refl none))

misfit_remark : (m : Misfit) → IsRemark (note_text Text (notes.Misfit m))
misfit_remark m = by (m.slot == 0) m.kind
  where
    by : (b : Bool) (k : SlotWidth) → IsRemark (line_of (cells_by (misfit_kind_at b k) (if b then start_cells m else bit_cells m)))
    by true Low = (refl, refl, ends (alone (codes "start") refl (width_line m)))
    by true Total = (refl, refl, ends (alone (codes "start") refl (width_line m)))
    by false Low = (refl, refl, ends (num (codes "slot ") m.slot refl (num (codes " block ") ((m.slot - 1) / 10 + 1) refl (num (codes " bit ") ((m.slot - 1) % 10 + 1) refl (width_line m)))))
    by false Total = (refl, refl, ends (num (codes "slot ") m.slot refl (num (codes " block ") ((m.slot - 1) / 10 + 1) refl (num (codes " bit ") ((m.slot - 1) % 10 + 1) refl (width_line m)))))

drive_remark : (width : ℕ) → IsRemark (note_text Text (notes.LowDrive width))
drive_remark width = by (fits (window 3360 3840) width)
  where
    by : (b : Bool) → IsRemark (line_of (cells_by kinds.LowDrive (if b then good_drive_cells width else bad_drive_cells width)))
    by true = (refl, refl, ends (num (codes "low drive ") width refl none))
    by false = (refl, refl, ends (num (codes "low drive ") width refl (num (codes " not ") 3360 refl (num (codes "..") 3840 refl none))))

plain_verdict : (b : Bool) → list_all (λ c. not (c == 10)) (verdict_lead b) ≡ true
plain_verdict true = refl
plain_verdict false = refl

failure_remark : (f : Failure) → IsRemark (note_text Text (notes.Attempt f))
failure_remark f = by (nat_lt 6 f.attempt)
  where
    limit : Bool → PlainCell
    limit b = if b then both (codes " of at most ") (codes "most") (number 6) else hidden (codes "most") nothing

    cells : Bool → List PlainCell
    cells b = both (codes "  block ") (codes "block") (number f.block) ∷ hidden (codes "verdict") (text (verdict_name f.refused)) ∷ both (verdict_lead f.refused) (codes "attempt") (number f.attempt) ∷ limit b ∷ []

    by : (b : Bool) → IsRemark (line_of (cells_by (if b then kinds.LastAttempt else kinds.Attempt) (cells b)))
    by true = (refl, refl, ends (num (codes "block ") f.block refl (num (verdict_lead f.refused) f.attempt (plain_verdict f.refused) (num (codes " of at most ") 6 refl none))))
    by false = (refl, refl, ends (num (codes "block ") f.block refl (num (verdict_lead f.refused) f.attempt (plain_verdict f.refused) none)))

receivers_remark : (r : Receivers) → IsRemark (note_text Text (notes.Receivers r))
receivers_remark OneDevice = (refl, refl, ends (alone (codes "to all, only for one device") refl none))
receivers_remark AllDevices = (refl, refl, ends (alone (codes "to one device, only for all") refl none))

head_remark : (h : FrameHead) → IsRemark (note_text Text (notes.Read h))
head_remark h = by h.opcode
  where
    by : (o : Option ℕ) → IsRemark (line_of (cells_by kinds.Read (header_cells h (opcode_cell o))))
    by None = (refl, refl, ends (nib (codes "read ") h.initiator refl (nib (codes ">") h.destination refl none)))
    by (Some opcode) = (refl, refl, ends (nib (codes "read ") h.initiator refl (nib (codes ">") h.destination refl (led (codes " ") (opcode_text opcode) refl (plain_opcode opcode) none))))

plain_name : (k : SpreadKind) → IsPlain (spread_name k)
plain_name spreads.StartLow = plain_codes (codes "start low") refl
plain_name spreads.StartTotal = plain_codes (codes "start total") refl
plain_name spreads.OneLow = plain_codes (codes "one low") refl
plain_name spreads.ZeroLow = plain_codes (codes "zero low") refl
plain_name spreads.BitTotal = plain_codes (codes "bit total") refl

note_remark : (n : AuditNote) → IsRemark (note_text Text n)
note_remark (notes.BadStarts s) = (refl, refl, ends (num (codes "after ") s.count refl (num (codes " bad-start since ") s.since refl none)))
note_remark (notes.NoAnswer r) =
    (refl, refl, ends (nib (codes "no answer to ") r.initiator refl (nib (codes ">") r.destination refl (led (codes " ") (hex_text r.opcode) refl (plain_hex r.opcode) (num (codes " of ") r.since refl none)))))
note_remark (notes.LateAnswer wait) = (refl, refl, ends (num (codes "answered after ") wait refl (num (codes ", at most ") 1000000 refl none)))
note_remark (notes.Free s) = (refl, refl, ends (num (codes "free ") s.free refl (num (codes " of ") s.due refl none)))
note_remark (notes.Misfit m) = misfit_remark m
note_remark (notes.LowDrive width) = drive_remark width
note_remark (notes.DriveWithin width) = (refl, refl, ends (num (codes "low drive for ") width refl none))
note_remark (notes.Unfinished block) = (refl, refl, ends (num (codes "ends after block ") block refl (alone (codes " without EOM") refl none)))
note_remark (notes.Attempt f) = failure_remark f
note_remark (notes.GoesOn block who) = goes_on_remark block who
note_remark (notes.Ending r who) = ending_remark r who
note_remark (notes.Cause c) = cause_remark c
note_remark (notes.Moved initiator p) =
    (refl, refl, ends (first (nibble_text (initiator % 16)) (plain_nibble (initiator % 16)) (led (codes " reported ") (phys_text p) refl (plain_phys p) (alone (codes " before") refl none))))
note_remark (notes.Receivers r) = receivers_remark r
note_remark (notes.Operands m) = (refl, refl, ends (num (codes "operands ") m.count refl (num (codes ", at least ") m.least refl none)))
note_remark (notes.Unreported m) = (refl, refl, ends (led (codes "nobody reported ") (phys_text m.phys) refl (plain_phys m.phys) (num (codes " of ") m.since refl none)))
note_remark (notes.Read h) = head_remark h
note_remark notes.Summary = (refl, refl, ends (alone (codes "all readings") refl none))
note_remark (notes.Sender initiator c) =
    (refl, refl, ends (nib (codes "from ") initiator refl (num (codes ": ") c.taken refl (num (codes " taken, ") c.untaken refl (num (codes " not taken, ") c.broken refl (alone (codes " broken") refl none))))))
note_remark (notes.Widths kind s) =
    (refl, refl, ends (first (spread_name kind) (plain_name kind) (num (codes " ") s.least refl (num (codes "..") s.greatest refl (num (codes " mean ") s.mean refl (num (codes " of ") s.count refl none))))))

-- ---- lines below a reading

-- no reading is among them, and the words have no line feed
abbrev IsSaid : AuditLine → Type 0
IsSaid (Reading x) = ⊥
IsSaid (Group group) = ⊥
IsSaid (Word word) = IsPlain word
IsSaid (Note note) = Unit {0}

abbrev AreSaid : List AuditLine → Type 0
AreSaid [] = Unit {0}
AreSaid (line ∷ lines) = IsSaid line × AreSaid lines

said_more : (xs ys : List AuditLine) → AreSaid xs → AreSaid ys → AreSaid (xs ++ ys)
said_more [] ys h k = k
said_more (x ∷ xs) ys h k = (h.0, said_more xs ys h.1 k)

said_remarks : (lines : List AuditLine) → AreSaid lines → AreRemarks (lines_text Text lines)
said_remarks [] h = no_remarks
said_remarks (Reading x ∷ lines) h = absurd h.0
said_remarks (Group group ∷ lines) h = absurd h.0
said_remarks (Word word ∷ lines) h = more_remarks (one_remark (word_text Text word) (refl, refl, ends (led (codes "# ") word refl h.0 none))) (said_remarks lines h.1)
said_remarks (Note note ∷ lines) h = more_remarks (one_remark (note_text Text note) (note_remark note)) (said_remarks lines h.1)

-- ---- words for what was read

abbrev Shown : List NamedByte → Type 0
Shown table = list_all (λ w. shown w.text) table ≡ true

if_shown : (b : Bool) (table others : List NamedByte) → Shown table → Shown others → Shown (if b then table else others)
if_shown true table others h k = h
if_shown false table others h k = k

more_shown : (code : ℕ) → Shown (more_words code)
more_shown code =
    if_shown (code == 0x00) abort_reasons _ refl
    (if_shown (code == 0x08) tuner_requests _ refl
    (if_shown (code == 0x09) record_sources _ refl
    (if_shown (code == 0x0a) record_states _ refl
    (if_shown (code == 0x1b) deck_states _ refl
    (if_shown (code == 0x41) play_modes _ refl
    (if_shown (code == 0x43) timer_cleared _ refl
    (if_shown (code == 0x44) user_controls _ refl
    (if_shown (code == 0x84) device_types _ refl
    (if_shown (code == 0x90) powers _ refl
    (if_shown (code == 0x9a) audio_rates _ refl
    (if_shown (code == 0x9e) versions _ refl refl)))))))))))

first_plain : (a b : Option (List ℕ)) → PlainIf a → PlainIf b → PlainIf (first_of a b)
first_plain None b h k = k
first_plain (Some a) b h k = h

operand_plain : (code : ℕ) (o : Option ℕ) → PlainIf (option_and_then (λ byte. word_of (more_words code) byte) o)
operand_plain code None = tt
operand_plain code (Some byte) = worded (more_words code) (more_shown code) byte

named_plain : (o : Option (List ℕ)) → PlainIf (named_in o)
named_plain None = tt
named_plain (Some []) = tt
named_plain (Some (header ∷ [])) = tt
named_plain (Some (header ∷ code ∷ operands)) = first_plain (word_of more_names code) (operand_remark code operands) (worded more_names refl code) (operand_plain code (slice_get operands (place_of code)))

said_noted : (o : Option AuditNote) → AreSaid (noted o)
said_noted None = tt
said_noted (Some note) = (tt, tt)

said_named : (o : Option (List ℕ)) → PlainIf o → AreSaid (named_lines o)
said_named None h = tt
said_named (Some name) h = (h, tt)

unless : (b : Bool) (lines : List AuditLine) → AreSaid lines → AreSaid (if b then lines else [])
unless true lines h = h
unless false lines h = tt

unless_not : (b : Bool) (lines : List AuditLine) → AreSaid lines → AreSaid (if b then [] else lines)
unless_not true lines h = tt
unless_not false lines h = h

said_misfits : (last : LastSlot) (ending : Ending) (bits : List Bool) (slot : ℕ) (lows : List LowOf) → AreSaid (misfit_lines last ending bits slot lows)
said_misfits last ending bits slot [] = tt
said_misfits last ending bits slot (low ∷ lows) =
    said_more _ _
    (said_more _ _ (said_noted (option_map notes.Misfit (slot_low (slot_by last (length lows)) bits slot low))) (said_noted (option_map notes.Misfit (slot_total (slot_by last (length lows)) ending bits slot low))))
    (said_misfits last ending bits (slot + 1) lows)

said_claims : (reported active : List Mention) → AreSaid (claims_lines reported active)
said_claims reported [] = tt
said_claims reported (m ∷ ms) = said_more _ _ (unless (is_unreported reported m.phys) _ (tt, tt)) (said_claims reported ms)

said_late : (begin : ℕ) (waiting : List Request) → AreSaid (late_lines begin waiting)
said_late begin [] = tt
said_late begin (r ∷ rs) = said_more _ _ (unless (is_late begin r) _ (tt, tt)) (said_late begin rs)

said_answer : (first : ℕ) (sent : List ℕ) (begin : ℕ) (frame : List ℕ) (r : Request) → AreSaid (answer_lines first sent begin frame r)
said_answer first sent begin frame r = by (is_answer first sent r)
  where
    by : (b : Bool) → AreSaid (if b then if_answered first r else if_given_up begin frame r)
    by true = unless (is_late first r) _ (tt, tt)
    by false = unless (is_given_up begin frame r) _ (tt, tt)

said_answers : (first : ℕ) (sent : List ℕ) (begin : ℕ) (frame : List ℕ) (waiting : List Request) → AreSaid (answers_lines first sent begin frame waiting)
said_answers first sent begin frame [] = tt
said_answers first sent begin frame (r ∷ rs) = said_more _ _ (said_answer first sent begin frame r) (said_answers first sent begin frame rs)

said_spread : (kind : SpreadKind) (s : Spread) → AreSaid (spread_lines kind s)
said_spread kind s = unless_not (s.count == 0) _ (tt, tt)

said_widths : (w : Widths) → AreSaid (widths_lines w)
said_widths w =
    said_more _ _ (said_more _ _ (said_more _ _ (said_more _ _ (said_spread spreads.StartLow w.start_low) (said_spread spreads.StartTotal w.start_total)) (said_spread spreads.OneLow w.one_low)) (said_spread spreads.ZeroLow w.zero_low)) (said_spread spreads.BitTotal w.total)

said_timing : (timing : Bool) (w : Widths) → AreSaid (timing_lines timing w)
said_timing true w = said_widths w
said_timing false w = tt

said_counts : (initiator : ℕ) (counts : List FrameCount) → AreSaid (counts_lines initiator counts)
said_counts initiator [] = tt
said_counts initiator (c ∷ counts) = said_more _ _ (unless_not ((c.taken == 0) && ((c.untaken == 0) && (c.broken == 0))) _ (tt, tt)) (said_counts (initiator + 1) counts)

said_summary : (end : ℕ) (t : Tape) → AreSaid (summary_lines end t)
said_summary end t =
    let a = late_lines end t.waiting in
    let b = claims_lines t.sources.reported.items t.sources.active.items in
    let c = counts_lines 0 t.counts in
    (tt, said_more (a ++ b ++ c) (widths_lines t.widths) (said_more (a ++ b) c (said_more a b (said_late end t.waiting) (said_claims t.sources.reported.items t.sources.active.items)) (said_counts 0 t.counts)) (said_widths t.widths))

-- ---- below a reading

said_measured : (t : Tape) (x : Listed) (lows : List LowOf) (drive : Option ℕ) → AreSaid (reading_misfits t x lows drive)
said_measured t x lows drive = unless (is_measured t.previous t.series x lows) _ (said_misfits (last_of drive x lows) x.reported.ending x.reported.bits 0 lows)

said_times : (t : Tape) (x : Listed) (lows : List LowOf) (drive : Option ℕ) → AreSaid (times_lines t x lows drive)
said_times t x lows drive =
    said_more _ _
    (said_more _ _
    (said_more _ _
    (said_more _ _
    (said_more _ _
    (said_more _ _
    (said_more _ _
    (said_more _ _
    (said_more _ _ (said_noted (option_map notes.BadStarts (series_over t.series x.reported.ending))) (said_answers (first_begin t x) (sent_frame x) x.begin (delivered_frame x) t.waiting)) (said_noted (option_map notes.Free (too_soon t.previous x (tries_again t.attempts x.reported.bits))))) (said_measured t x lows drive)) (said_noted (option_map notes.LowDrive drive)))
    (said_noted (option_map notes.DriveWithin (drive_within lows)))) (said_noted (option_map notes.Unfinished (unfinished_of x lows)))) (said_noted (option_map notes.Attempt (failure_of t.attempts x.begin (free_before t.previous x.begin) x.reported.bits))))
    (said_noted (goes_on_note x.reported.bits (goes_on_after x.reported.bits))))
    (said_noted (ending_note x.reported.bits (ending_of t.previous t.series drive x lows)))

said_read : (x : Listed) → AreSaid (read_lines x)
said_read x = said_more _ _ (said_noted (option_map notes.Read (head_read x.reported.ending x.reported.bits))) (said_named (named_of x) (named_plain (frame_in (reading_as x))))

said_frame : (t : Tape) (frame : List ℕ) → AreSaid (frame_lines t frame)
said_frame t frame =
    said_more _ _ (said_more _ _ (said_noted (option_map (notes.Moved (sender frame)) (moved_from frame t.places))) (said_noted (option_map notes.Receivers (missed_receivers frame)))) (said_noted (option_map notes.Operands (missing_operands frame)))

below : (timing : Bool) (t : Tape) (x : Listed) → AreRemarks (remarks_text timing t x)
below timing t x =
    said_remarks (remark_lines timing t x)
    (said_more _ _ (said_more _ _ (said_more _ _ (said_read x) (said_times t x (lows_of x t.place) (drive_of x t.place))) (said_frame t (delivered_frame x))) (said_timing timing (with_slots x.reported.ending x.reported.bits 0 (lows_of x t.place) no_widths)))

kept_from : (timing : Bool) (t : Tape) (xs : List Listed) (end : List ℕ) → AreRemarks end → AreKept xs (reported_all timing t xs ++ end)
kept_from timing t [] end h = h
kept_from timing t (x ∷ xs) end h = (
  remarks_text timing (come_to x t) x,
  reported_all timing (after x t) xs ++ end,
  below timing (come_to x t) x,
  kept_from timing (after x t) xs end h,
  append_assoc (line_and_remarks timing t x) (reported_all timing (after x t) xs) end,
)

pub are_kept : (timing : Bool) (c : Captured) → AreKept (readings_of (line_of_edges c.edges) c.end) (audit_text timing c)
are_kept timing c =
    kept_from timing (first_tape c.edges) (readings_of (line_of_edges c.edges) c.end) (summary_text c.end (after_all (first_tape c.edges) (readings_of (line_of_edges c.edges) c.end))) (said_remarks (summary_lines c.end (after_all (first_tape c.edges) (readings_of (line_of_edges c.edges) c.end))) (said_summary c.end (after_all (first_tape c.edges) (readings_of (line_of_edges c.edges) c.end))))
