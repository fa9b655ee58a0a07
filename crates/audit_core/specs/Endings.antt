-- Of each reading that is not whole is said how it ends: something that the standard has otherwise, or a lawful cause (CEC 5.2, 6.1, 7.1,
-- 7.2, 7.4).
use Rattle.std.specs.Prelude.{◌≡◌, ℕ, ◌-◌, ◌==◌, Bool, true, false, length}
use Rattle.std.specs.List.{list_any}
use Rattle.line_reading.specs.Readings.{Listed}
use Rattle.message_text.specs.ReadingText.{is_complete}
use Rattle.audit_remarks.specs.Endings.{is_measured}
use Rattle.audit_notes.specs.Lines.{AuditLine}
use Rattle.audit_notes.specs.Lines.AuditLine.{Note}
use Rattle.audit_notes.specs.declared.note.AuditNote.{AuditNote}
use Rattle.audit_notes.specs.declared.note.AuditNote.TheVariants.{Attempt, Cause, DriveWithin, Ending, LowDrive, Misfit, Unfinished}
use Rattle.audit_core.specs.Audit.{Tape, lows_of, remark_lines}

-- a width of the last slot, a low drive, a block that was not taken or is not the last one, and what else is said of an ending
abbrev pub note_says : ℕ → AuditNote → Bool
note_says last (Misfit m) = m.slot == last
note_says last (LowDrive width) = true
note_says last (DriveWithin width) = true
note_says last (Unfinished block) = true
note_says last (Attempt f) = true
note_says last (Ending r who) = true
note_says last (Cause c) = true
note_says last _ = false

abbrev pub says_ending : ℕ → AuditLine → Bool
says_ending last (Note note) = note_says last note
says_ending last _ = false

-- the last slot of a reading; 0 is the start bit
abbrev pub last_slot : Tape → Listed → ℕ
last_slot t x = length (lows_of x t.place) - 1

-- A reading that is not measured is a bit behind another one, or a bad start after another one.
abbrev pub EndingsAreSaid : Type 0
EndingsAreSaid = (timing : Bool) (t : Tape) (x : Listed) → is_complete x.reported.ending ≡ false → is_measured t.previous t.series x (lows_of x t.place) ≡ true
    → list_any (says_ending (last_slot t x)) (remark_lines timing t x) ≡ true
