use Rattle.std.proofs.Common.{map, length}
use Rattle.std.specs.List.{flat_map}
use Rattle.capture_difference.proofs.Adding.{AddsFront}
use Rattle.capture_difference.proofs.lines.add_rows.Given as goal
use Rattle.capture_difference.specs.Lines.{row_text}
use Rattle.capture_difference.specs.Rows.{row_as}

-- the lines of the rows before are added
abbrev pub invariant-rows : goal.invariant-rows
invariant-rows g l = AddsFront l.fn.out l.out l.form (map row_as l.rest) (flat_map (row_text l.form) (map row_as l.rows))

abbrev pub decreases-rows : goal.decreases-rows
decreases-rows g l = length l.rest
