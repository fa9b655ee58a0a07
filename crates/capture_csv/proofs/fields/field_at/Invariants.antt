use Rattle.std.proofs.Common.{◌≡◌}
use Rattle.std.specs.Option.{option_copied}
use Rattle.capture_csv.specs.Csv.{field_at, fields_after}
use Rattle.capture_csv.proofs.Columns.{left_length}
use Rattle.capture_csv.proofs.fields.field_at.Given as goal

-- the column is one of what is left
abbrev pub invariant-fields : goal.invariant-fields
invariant-fields l = field_at l.column (fields_after (option_copied l.initial.left)) ≡ field_at l.count (fields_after (option_copied l.left))

abbrev pub decreases-fields : goal.decreases-fields
decreases-fields l = left_length (option_copied l.left)
