use Rattle.std.proofs.Common.{◌≡◌, ◌+◌, ◌≤◌}
use Rattle.std.specs.Option.{option_copied}
use Rattle.capture_csv.specs.Csv.{column_from, fields_after}
use Rattle.capture_csv.proofs.Columns.{left_length}
use Rattle.capture_csv.proofs.fields.column_in.Given as goal

-- the column is one of what is left
abbrev pub invariant-fields : goal.invariant-fields
invariant-fields l = record {
  so_far : column_from 1 l.signal (fields_after (option_copied l.initial.left)) ≡ column_from l.column l.signal (fields_after (option_copied l.left));
  room : l.column + left_length (option_copied l.left) ≤ left_length (option_copied l.initial.left) + 1;
}

abbrev pub decreases-fields : goal.decreases-fields
decreases-fields l = left_length (option_copied l.left)
