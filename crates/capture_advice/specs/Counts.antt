-- How many complete readings a capture has by windows that are wider (own), and of what a margin is advised.
use Rattle.std.specs.Prelude.{◌≡◌, ℕ, ◌+◌, ◌-◌, ◌<◌, min, List, [], ◌∷◌, map}
use Rattle.line_frames.specs.declared.Ending.{Ending}
use Rattle.line_frames.specs.declared.Ending.TheVariants.{Complete}
use Rattle.line_reading.specs.Windows.{wider}
use Rattle.audit_widths.specs.Spreads.{sum_of}
use Rattle.capture_core.specs.Edges.{Captured}
use Rattle.capture_monitor.specs.Watch.{captured_by}
use Rattle.audit_notes.specs.Lines.{AuditLine}
use Rattle.audit_notes.specs.Lines.AuditLine.{Reading}
use Rattle.capture_advice.specs.declared.widening.Widening.{Widening}

abbrev pub count_of : Ending → ℕ
count_of Complete = 1
count_of _ = 0

abbrev pub count_in : AuditLine → ℕ
count_in (Reading x) = count_of x.reported.ending
count_in _ = 0

-- the complete readings of these lines
abbrev pub complete_in : List AuditLine → ℕ
complete_in [] = 0
complete_in (line ∷ lines) = count_in line + complete_in lines

-- those of a capture, by the standard's windows, each wider by a margin at either side
abbrev pub complete_at : ℕ → Captured → ℕ
complete_at margin c = complete_in (map Reading (captured_by (wider margin) c))

-- a count that stays at the greatest value that it has
abbrev pub most_count : ℕ
most_count = 18446744073709551615

abbrev pub capped : ℕ → ℕ
capped n = min n most_count

-- after a line, and after lines
abbrev pub one_more : ℕ → AuditLine → ℕ
one_more n (Reading x) = sum_of n (count_of x.reported.ending)
one_more n _ = n

abbrev pub counted_after : ℕ → List AuditLine → ℕ
counted_after n [] = n
counted_after n (line ∷ lines) = counted_after (one_more n line) lines

abbrev pub Counts : ℕ → List AuditLine → ℕ → Type 0
Counts before lines after = after ≡ counted_after before lines

-- So many more readings are complete as is said, of counts that stay at the greatest value.
abbrev pub IsCounted : Captured → Widening → Type 0
IsCounted c w = w.more ≡ capped (complete_at w.margin c) - capped (complete_at 0 c)

-- A margin that is advised reads more.
abbrev pub ReadsMore : Captured → Widening → Type 0
ReadsMore c w = 0 < w.more → complete_at 0 c < complete_at w.margin c
