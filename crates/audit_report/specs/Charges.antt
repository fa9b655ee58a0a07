-- What is told of each logical address, and of nobody, reading by reading (own).
use Rattle.std.specs.Prelude.{ℕ, min, false, List, [], ◌∷◌, ◌++◌, replicate, slice_index_or, slice_set, Option, Some, None}
use Rattle.std.specs.List.{flat_map}
use Rattle.line_reading.specs.Readings.{Listed}
use Rattle.capture_core.specs.Edges.{Captured}
use Rattle.audit_remarks.specs.declared.free.FreeTaken.{FreeTaken}
use Rattle.audit_notes.specs.Lines.{AuditLine}
use Rattle.audit_notes.specs.Lines.AuditLine.{Note}
use Rattle.audit_core.specs.Audit.{Tape, after, after_all, come_to, first_tape, remark_lines, summary_lines}
use Rattle.audit_core.specs.Measured.{free_of, measured_of, waits_of}
use Rattle.audit_report.specs.declared.parties.Parties.{Parties}
use Rattle.audit_report.specs.declared.row.Row.{Row}
use Rattle.audit_report.specs.Parties.{charged, nobody, parties_of, sender_of, taker_of}
use Rattle.audit_report.specs.Rows.{Told, no_row, with_told}
use Rattle.audit_report.specs.Rows.Told.{Sent, Took, Waited, Answered, Noted}

-- ---- rows

-- what is told, and of whom; of nobody where the line does not say who it was
pub record Charge : Type 0 where
  pub who : Option ℕ
  pub told : Told

-- the rows of the addresses 0 to 15, and then that of nobody
abbrev pub no_rows : List Row
no_rows = replicate 17 no_row

abbrev pub place_of : Option ℕ → ℕ
place_of None = 16
place_of (Some address) = min address 16

abbrev pub with_charge : Option ℕ → Told → List Row → List Row
with_charge who told rows = slice_set rows (place_of who) (with_told told (slice_index_or rows (place_of who) no_row))

-- one after another
abbrev pub rows_with : List Charge → List Row → List Row
rows_with [] rows = rows
rows_with (c ∷ cs) rows = rows_with cs (with_charge c.who c.told rows)

-- ---- what is told of a reading

abbrev pub free_charges : Option ℕ → Option FreeTaken → List Charge
free_charges who None = []
free_charges who (Some f) = record { who = who; told = Waited f } ∷ []

abbrev pub answers_of : Option ℕ → List ℕ → List Charge
answers_of who [] = []
answers_of who (wait ∷ waits) = record { who = who; told = Answered wait } ∷ answers_of who waits

-- its widths, of its initiator and of its follower, the free time before it, and the requests that it answers
abbrev pub measured_charges : Tape → Listed → List Charge
measured_charges t x =
    (record { who = sender_of x.reported.bits; told = Sent x.reported.ending x.reported.bits (measured_of t x) }
    ∷ record { who = taker_of x.reported.bits; told = Took x.reported.ending x.reported.bits (measured_of t x) } ∷ [])
    ++ (free_charges (sender_of x.reported.bits) (free_of t x) ++ answers_of (sender_of x.reported.bits) (waits_of t x))

-- what the audit says below a reading of these parties
abbrev pub line_charges : Parties → AuditLine → List Charge
line_charges p (Note note) = record { who = charged p note; told = Noted note } ∷ []
line_charges p line = []

abbrev pub lines_charges : Parties → List AuditLine → List Charge
lines_charges p lines = flat_map (line_charges p) lines

abbrev pub reading_charges : Tape → Listed → List Charge
reading_charges t x = measured_charges t x ++ lines_charges (parties_of x.reported.bits) (remark_lines false t x)

-- ---- of readings, one after another, and of a whole capture

abbrev pub charges_all : Tape → List Listed → List Charge
charges_all t [] = []
charges_all t (x ∷ xs) = reading_charges (come_to x t) x ++ charges_all (after x t) xs

-- THE list of what a report counts
abbrev pub charges_of : Captured → List Listed → List Charge
charges_of c xs =
    charges_all (first_tape c.edges) xs ++ lines_charges nobody (summary_lines c.end (after_all (first_tape c.edges) xs))

abbrev pub rows_of : Captured → List Listed → List Row
rows_of c xs = rows_with (charges_of c xs) no_rows
