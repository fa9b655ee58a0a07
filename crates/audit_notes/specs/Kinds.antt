-- The table of kinds: what each is called, the section of the standard that it goes by (HDMI 1.4, CEC), and whether the standard has
-- it otherwise.
use Rattle.std.specs.Prelude.{ℕ, Bool, true, false, if◌then◌else◌, List, [], ◌∷◌, codes}
use Rattle.audit_judged.specs.declared.endings.EndingRemark.TheVariants.{LoneStart, Stops}
use Rattle.piece_notes.specs.Kinds.{cause_name, cause_section, ending_name, ending_section}
use Rattle.audit_notes.specs.declared.kind.NoteKind.{NoteKind}
use Rattle.audit_notes.specs.declared.kind.NoteKind.TheVariants.{BadStarts, NoAnswer, LateAnswer, Free, StartLow, StartTotal, BitLow, BitTotal, LowDrive, DriveWithin, Unfinished, Attempt, LastAttempt, GoesOn, Ending, Cause, Moved, Receivers, Operands, Unreported, Read, Word, Summary, Sender, Widths}

abbrev pub name_of : NoteKind → List ℕ
name_of BadStarts = codes "bad-starts"
name_of NoAnswer = codes "no-answer"
name_of LateAnswer = codes "late-answer"
name_of Free = codes "free"
name_of StartLow = codes "start-low"
name_of StartTotal = codes "start-total"
name_of BitLow = codes "bit-low"
name_of BitTotal = codes "bit-total"
name_of LowDrive = codes "low-drive"
name_of DriveWithin = codes "drive-within"
name_of Unfinished = codes "unfinished"
name_of Attempt = codes "attempt"
name_of LastAttempt = codes "too-many-attempts"
name_of GoesOn = codes "goes-on"
name_of (Ending r) = ending_name r
name_of (Cause c) = cause_name c
name_of Moved = codes "moved"
name_of Receivers = codes "receivers"
name_of Operands = codes "operands"
name_of Unreported = codes "nobody-there"
name_of Read = codes "read"
name_of Word = codes "word"
name_of Summary = codes "summary"
name_of Sender = codes "sender"
name_of Widths = codes "widths"

abbrev pub section_of : NoteKind → List ℕ
section_of NoAnswer = codes "9.2"
section_of LateAnswer = codes "9.2"
section_of Free = codes "9.1"
section_of StartLow = codes "5.2.1"
section_of StartTotal = codes "5.2.1"
section_of BitLow = codes "5.2.2"
section_of BitTotal = codes "5.2.2"
section_of LowDrive = codes "7.4"
section_of DriveWithin = codes "7.4"
section_of Unfinished = codes "6.1.2"
section_of Attempt = codes "6.1.2"
section_of LastAttempt = codes "7.1"
section_of GoesOn = codes "7.1"
section_of (Ending r) = ending_section r
section_of (Cause c) = cause_section c
section_of Moved = codes "10.1"
section_of Receivers = codes "13"
section_of Operands = codes "13"
section_of Unreported = codes "11.2"
section_of _ = []

-- A block that nobody takes, a frame that ends for a lawful cause, a device that moves, an address that nobody reported in this capture
-- and bad starts are no faults.
abbrev pub is_remark : NoteKind → Bool
is_remark NoAnswer = true
is_remark LateAnswer = true
is_remark Free = true
is_remark StartLow = true
is_remark StartTotal = true
is_remark BitLow = true
is_remark BitTotal = true
is_remark LowDrive = true
is_remark DriveWithin = true
is_remark Unfinished = true
is_remark LastAttempt = true
is_remark GoesOn = true
is_remark (Ending r) = true
is_remark Receivers = true
is_remark Operands = true
is_remark _ = false

-- what is said of one reading, its widths apart
abbrev pub is_note : NoteKind → Bool
is_note Summary = false
is_note Sender = false
is_note Widths = false
is_note kind = true

-- the type of its object: what the standard has otherwise is a remark, what else is said of a reading a note
abbrev pub type_of : NoteKind → List ℕ
type_of kind = if is_remark kind then codes "remark" else if is_note kind then codes "note" else name_of kind

-- the kinds of remarks; a number in one is no part of how it is called
abbrev pub remark_kinds : List NoteKind
remark_kinds = NoAnswer ∷ LateAnswer ∷ Free ∷ StartLow ∷ StartTotal ∷ BitLow ∷ BitTotal ∷ LowDrive ∷ DriveWithin ∷ Unfinished ∷ LastAttempt ∷ GoesOn ∷ Ending (Stops 0) ∷ Ending (LoneStart 0) ∷ Receivers ∷ Operands ∷ []
