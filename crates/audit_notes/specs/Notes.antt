-- Lines of an audit by their cells (own), and of which kind each is. Those below a reading and at the end begin with two spaces.
use Rattle.std.specs.Prelude.{ℕ, ◌+◌, ◌-◌, ◌/◌, ◌%◌, ◌==◌, Bool, true, false, nat_lt, if◌then◌else◌, List, [], ◌∷◌, ◌++◌, Option, Some, None, codes}
use Rattle.text_core.specs.declared.phys.Phys.{Phys}
use Rattle.audit_widths.specs.declared.misfit.SlotWidth.{SlotWidth}
use Rattle.audit_widths.specs.declared.misfit.SlotWidth.TheVariants.{Low, Total}
use Rattle.audit_widths.specs.declared.misfit.Misfit.{Misfit}
use Rattle.audit_widths.specs.Misfits.{fits, window}
use Rattle.audit_remarks.specs.declared.attempts.Failure.{Failure}
use Rattle.audit_remarks.specs.declared.counts.FrameCount.{FrameCount}
use Rattle.audit_remarks.specs.declared.free.TooSoon.{TooSoon}
use Rattle.audit_remarks.specs.declared.header.FrameHead.{FrameHead}
use Rattle.audit_remarks.specs.declared.messages.Missing.{Missing}
use Rattle.audit_remarks.specs.declared.messages.Receivers.{Receivers}
use Rattle.audit_remarks.specs.declared.messages.Receivers.TheVariants.{OneDevice, AllDevices}
use Rattle.audit_remarks.specs.declared.requests.Request.{Request}
use Rattle.audit_remarks.specs.declared.series.BadStartSeries.{BadStartSeries}
use Rattle.audit_remarks.specs.declared.sources.Mention.{Mention}
use Rattle.message_text.specs.FrameText.{opcode_text}
use Rattle.audit_judged.specs.declared.widths.Party.{Party}
use Rattle.piece_notes.specs.Notes.{cause_words, own_cells as ending_cells, who_cells}
use Rattle.record_core.specs.Cells.{PlainCell, both, hidden, line_only}
use Rattle.record_core.specs.Values.{hex_byte, nibble, nothing, number, phys, text}
use Rattle.record_core.specs.Records.{record_text}
use Rattle.record_core.specs.declared.cell.Form.{Form}
use Rattle.audit_notes.specs.Kinds.{name_of, section_of, type_of}
use Rattle.audit_notes.specs.declared.kind.NoteKind.{NoteKind}
use Rattle.audit_notes.specs.declared.kind.NoteKind.TheVariants as kinds
use Rattle.audit_notes.specs.declared.note.AuditNote.{AuditNote}
use Rattle.audit_notes.specs.declared.note.AuditNote.TheVariants.{BadStarts, NoAnswer, LateAnswer, Free, Misfit as MisfitNote, LowDrive, DriveWithin, Unfinished, Attempt, GoesOn, Ending, Cause, Moved, Receivers as ReceiversNote, Operands, Unreported, Read, Summary, Sender, Widths}
use Rattle.audit_notes.specs.declared.note.WidthSummary.{WidthSummary}
use Rattle.audit_notes.specs.declared.note.SpreadKind.{SpreadKind}
use Rattle.audit_notes.specs.declared.note.SpreadKind.TheVariants as spreads

-- ---- kinds

-- slot 0 is the start bit
abbrev pub misfit_kind_at : Bool → SlotWidth → NoteKind
misfit_kind_at true Low = kinds.StartLow
misfit_kind_at true Total = kinds.StartTotal
misfit_kind_at false Low = kinds.BitLow
misfit_kind_at false Total = kinds.BitTotal

abbrev pub misfit_kind : Misfit → NoteKind
misfit_kind m = misfit_kind_at (m.slot == 0) m.kind

-- past the sixth attempt, the first and five more (CEC 7.1)
abbrev pub attempt_kind : Failure → NoteKind
attempt_kind f = if nat_lt 6 f.attempt then kinds.LastAttempt else kinds.Attempt

abbrev pub kind_of : AuditNote → NoteKind
kind_of (BadStarts s) = kinds.BadStarts
kind_of (NoAnswer r) = kinds.NoAnswer
kind_of (LateAnswer wait) = kinds.LateAnswer
kind_of (Free s) = kinds.Free
kind_of (MisfitNote m) = misfit_kind m
kind_of (LowDrive width) = kinds.LowDrive
kind_of (DriveWithin width) = kinds.DriveWithin
kind_of (Unfinished block) = kinds.Unfinished
kind_of (Attempt f) = attempt_kind f
kind_of (GoesOn block who) = kinds.GoesOn
kind_of (Ending r who) = kinds.Ending r
kind_of (Cause c) = kinds.Cause c
kind_of (Moved initiator before) = kinds.Moved
kind_of (ReceiversNote r) = kinds.Receivers
kind_of (Operands m) = kinds.Operands
kind_of (Unreported m) = kinds.Unreported
kind_of (Read h) = kinds.Read
kind_of Summary = kinds.Summary
kind_of (Sender initiator c) = kinds.Sender
kind_of (Widths kind s) = kinds.Widths

-- ---- the cells of each

-- the object has its name and its section first
abbrev pub named : NoteKind → PlainCell
named kind = hidden (type_of kind) (text (name_of kind))

abbrev pub in_section : NoteKind → PlainCell
in_section kind = hidden (codes "section") (text (section_of kind))

abbrev pub noted : NoteKind → List PlainCell → List PlainCell
noted kind cells = named kind ∷ in_section kind ∷ cells

-- words of the line alone
abbrev pub said_so : List ℕ → PlainCell
said_so words = line_only words nothing

-- what the standard calls what a reading leaves as bytes: `  # give-features`
abbrev pub word_cells : List ℕ → List PlainCell
word_cells word = both (codes "  # ") (codes "word") (text word) ∷ []

-- a reading that ends after whole blocks: `  read 0>8`, `  read 4>0 image-view-on`
abbrev pub named_opcode : List ℕ → PlainCell
named_opcode name = both (codes " ") (codes "opcode") (text name)

abbrev pub opcode_cell : Option ℕ → PlainCell
opcode_cell None = hidden (codes "opcode") nothing
opcode_cell (Some opcode) = named_opcode (opcode_text opcode)

abbrev pub header_cells : FrameHead → PlainCell → List PlainCell
header_cells h opcode = both (codes "  read ") (codes "initiator") (nibble h.initiator) ∷ both (codes ">") (codes "destination") (nibble h.destination) ∷ opcode ∷ []

abbrev pub head_cells : FrameHead → List PlainCell
head_cells h = header_cells h (opcode_cell h.opcode)

-- bad starts in a row: `  after 7 bad-start since 1000`
abbrev pub series_cells : BadStartSeries → List PlainCell
series_cells s = both (codes "  after ") (codes "count") (number s.count) ∷ both (codes " bad-start since ") (codes "since") (number s.since) ∷ []

-- a frame that came too soon: `  free 7199 of 7200`
abbrev pub soon_cells : TooSoon → List PlainCell
soon_cells s = both (codes "  free ") (codes "width") (number s.free) ∷ both (codes " of ") (codes "due") (number s.due) ∷ []

abbrev pub width_lead : SlotWidth → List ℕ
width_lead Low = codes " low "
width_lead Total = codes " total "

abbrev pub width_cells : Misfit → List PlainCell
width_cells m =
    both (width_lead m.kind) (codes "width") (number m.micros) ∷ both (codes " not ") (codes "least") (number m.window.least)
    ∷ both (codes "..") (codes "most") (number m.window.greatest) ∷ []

-- a width that is out of its window, of the start bit: `  start low 3400 not 3500..3900`
abbrev pub start_cells : Misfit → List PlainCell
start_cells m = said_so (codes "  start") ∷ width_cells m

-- or of a slot with its block and its bit there, from 1: `  slot 13 block 2 bit 3 low 870 not 400..800`
abbrev pub bit_cells : Misfit → List PlainCell
bit_cells m =
    both (codes "  slot ") (codes "slot") (number m.slot) ∷ both (codes " block ") (codes "block") (number ((m.slot - 1) / 10 + 1))
    ∷ both (codes " bit ") (codes "bit") (number ((m.slot - 1) % 10 + 1)) ∷ width_cells m

abbrev pub misfit_cells : Misfit → List PlainCell
misfit_cells m = if m.slot == 0 then start_cells m else bit_cells m

-- a low drive, in its window or out of it (CEC 7.4): `  low drive 3600`, `  low drive 3000 not 3360..3840`
abbrev pub good_drive_cells : ℕ → List PlainCell
good_drive_cells width = both (codes "  low drive ") (codes "width") (number width) ∷ hidden (codes "least") nothing ∷ hidden (codes "most") nothing ∷ []

abbrev pub bad_drive_cells : ℕ → List PlainCell
bad_drive_cells width =
    both (codes "  low drive ") (codes "width") (number width) ∷ both (codes " not ") (codes "least") (number 3360) ∷ both (codes "..") (codes "most") (number 3840) ∷ []

abbrev pub drive_cells : ℕ → List PlainCell
drive_cells width = if fits (window 3360 3840) width then good_drive_cells width else bad_drive_cells width

-- a low drive that began while the line was low: `  low drive for 3700`
abbrev pub within_cells : ℕ → List PlainCell
within_cells width = both (codes "  low drive for ") (codes "width") (number width) ∷ []

-- a frame that breaks off between two blocks: `  ends after block 1 without EOM`
abbrev pub unfinished_cells : ℕ → List PlainCell
unfinished_cells block = both (codes "  ends after block ") (codes "block") (number block) ∷ said_so (codes " without EOM") ∷ []

-- a block that was not acknowledged, or refused: `  block 1 not acknowledged, attempt 2`, and past the sixth attempt ` of at most 6`
abbrev pub verdict_name : Bool → List ℕ
verdict_name true = codes "refused"
verdict_name false = codes "nack"

abbrev pub verdict_lead : Bool → List ℕ
verdict_lead true = codes " refused, attempt "
verdict_lead false = codes " not acknowledged, attempt "

abbrev pub limit_cell : ℕ → PlainCell
limit_cell attempt = if nat_lt 6 attempt then both (codes " of at most ") (codes "most") (number 6) else hidden (codes "most") nothing

abbrev pub failure_cells : Failure → List PlainCell
failure_cells f =
    both (codes "  block ") (codes "block") (number f.block) ∷ hidden (codes "verdict") (text (verdict_name f.refused))
    ∷ both (verdict_lead f.refused) (codes "attempt") (number f.attempt) ∷ limit_cell f.attempt ∷ []

-- two addresses for one device: `  1 reported 1.0.0.0 before`
abbrev pub moved_cells : ℕ → Phys → List PlainCell
moved_cells initiator before =
    both (codes "  ") (codes "initiator") (nibble initiator) ∷ both (codes " reported ") (codes "before") (phys before) ∷ said_so (codes " before") ∷ []

-- a message that came to others than it is for
abbrev pub receivers_words : Receivers → List ℕ
receivers_words OneDevice = codes "  to all, only for one device"
receivers_words AllDevices = codes "  to one device, only for all"

abbrev pub receivers_cells : Receivers → List PlainCell
receivers_cells r = said_so (receivers_words r) ∷ []

-- fewer operands than the opcode has, in bytes: `  operands 1, at least 2`
abbrev pub missing_cells : Missing → List PlainCell
missing_cells m = both (codes "  operands ") (codes "count") (number m.count) ∷ both (codes ", at least ") (codes "least") (number m.least) ∷ []

-- an active source that nobody reported: `  nobody reported 2.0.0.0 of 599150`
abbrev pub claim_cells : Mention → List PlainCell
claim_cells m = both (codes "  nobody reported ") (codes "address") (phys m.phys) ∷ both (codes " of ") (codes "at") (number m.since) ∷ []

-- a request that was not answered: `  no answer to 4>0 8f of 1051150`
abbrev pub request_cells : Request → List PlainCell
request_cells r =
    both (codes "  no answer to ") (codes "initiator") (nibble r.initiator) ∷ both (codes ">") (codes "destination") (nibble r.destination)
    ∷ both (codes " ") (codes "opcode") (hex_byte r.opcode) ∷ both (codes " of ") (codes "at") (number r.since) ∷ []

-- one that was answered after more than a second (CEC 9.2): `  answered after 1199000, at most 1000000`
abbrev pub answered_cells : ℕ → List PlainCell
answered_cells wait = both (codes "  answered after ") (codes "wait") (number wait) ∷ both (codes ", at most ") (codes "most") (number 1000000) ∷ []

-- `  zero low 1490..1512 mean 1501 of 14`
abbrev pub spread_name : SpreadKind → List ℕ
spread_name spreads.StartLow = codes "start low"
spread_name spreads.StartTotal = codes "start total"
spread_name spreads.OneLow = codes "one low"
spread_name spreads.ZeroLow = codes "zero low"
spread_name spreads.BitTotal = codes "bit total"

abbrev pub spread_cells : SpreadKind → WidthSummary → List PlainCell
spread_cells kind s =
    both (codes "  ") (codes "kind") (text (spread_name kind)) ∷ both (codes " ") (codes "least") (number s.least) ∷ both (codes "..") (codes "greatest") (number s.greatest)
    ∷ both (codes " mean ") (codes "mean") (number s.mean) ∷ both (codes " of ") (codes "count") (number s.count) ∷ []

-- the frames of an initiator: `  from 4: 12 taken, 1 not taken, 2 broken`
abbrev pub count_cells : ℕ → FrameCount → List PlainCell
count_cells initiator c =
    both (codes "  from ") (codes "initiator") (nibble initiator) ∷ both (codes ": ") (codes "taken") (number c.taken)
    ∷ both (codes " taken, ") (codes "not_taken") (number c.untaken) ∷ both (codes " not taken, ") (codes "broken") (number c.broken) ∷ said_so (codes " broken") ∷ []

-- a frame that goes on after a block that was not taken: `  goes on after block 1, which was not taken, by initiator 4`
abbrev pub goes_on_cells : ℕ → Party → List PlainCell
goes_on_cells block who = both (codes "  goes on after block ") (codes "block") (number block) ∷ said_so (codes ", which was not taken,") ∷ who_cells who

abbrev pub own_cells : AuditNote → List PlainCell
own_cells (BadStarts s) = series_cells s
own_cells (NoAnswer r) = request_cells r
own_cells (LateAnswer wait) = answered_cells wait
own_cells (Free s) = soon_cells s
own_cells (MisfitNote m) = misfit_cells m
own_cells (LowDrive width) = drive_cells width
own_cells (DriveWithin width) = within_cells width
own_cells (Unfinished block) = unfinished_cells block
own_cells (Attempt f) = failure_cells f
own_cells (GoesOn block who) = goes_on_cells block who
own_cells (Ending r who) = ending_cells r ++ who_cells who
own_cells (Cause c) = said_so (cause_words c) ∷ []
own_cells (Moved initiator before) = moved_cells initiator before
own_cells (ReceiversNote r) = receivers_cells r
own_cells (Operands m) = missing_cells m
own_cells (Unreported m) = claim_cells m
own_cells (Read h) = head_cells h
own_cells Summary = said_so (codes "  all readings") ∷ []
own_cells (Sender initiator c) = count_cells initiator c
own_cells (Widths kind s) = spread_cells kind s

-- of a remark and of a note the object has its kind and its section of HDMI 1.4, CEC
abbrev pub cells_by : NoteKind → List PlainCell → List PlainCell
cells_by kinds.Summary cells = cells
cells_by kinds.Sender cells = cells
cells_by kinds.Widths cells = cells
cells_by kind cells = noted kind cells

-- THE text of a line of a kind
abbrev pub kind_text : Form → NoteKind → List PlainCell → List ℕ
kind_text form kind cells = record_text form (type_of kind) (cells_by kind cells)

abbrev pub word_text : Form → List ℕ → List ℕ
word_text form word = kind_text form kinds.Word (word_cells word)

abbrev pub note_text : Form → AuditNote → List ℕ
note_text form note = kind_text form (kind_of note) (own_cells note)
