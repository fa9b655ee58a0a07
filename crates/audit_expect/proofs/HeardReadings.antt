-- The readings of a capture are those that are heard.
use Rattle.std.proofs.Common.{◌≡◌, map, List, [], ◌∷◌, refl, ap}
use Rattle.line_reading.specs.Readings.{Listed}
use Rattle.record_core.specs.declared.cell.Form.{Form}
use Rattle.audit_notes.specs.Lines.AuditLine.{Reading}
use Rattle.expect_judge.specs.Told.{RoundLine}
use Rattle.audit_expect.specs.Heard.{rounds_of}
use Rattle.audit_expect.specs.Marks.{listed_told}

pub all_heard : (form : Form) (xs : List Listed) → rounds_of form (map Reading xs) ≡ map (listed_told form) xs
all_heard form [] = refl
all_heard form (x ∷ xs) = ap (λ (rounds : List RoundLine). listed_told form x ∷ rounds) (all_heard form xs)
