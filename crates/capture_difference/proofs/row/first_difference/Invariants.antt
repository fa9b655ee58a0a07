use Rattle.std.proofs.Common.{◌≡◌, ◌+◌, map, length}
use Rattle.capture_difference.proofs.row.first_difference.Given as goal
use Rattle.capture_difference.specs.Rows.{first_from, row_as}

-- none before has a difference
abbrev pub invariant-rows : goal.invariant-rows
invariant-rows l = record {
  same : first_from l.common (map row_as l.rest) ≡ first_from 0 (map row_as l.rows);
  room : l.common + length l.rest ≡ length l.rows;
}

abbrev pub decreases-rows : goal.decreases-rows
decreases-rows l = length l.rest
