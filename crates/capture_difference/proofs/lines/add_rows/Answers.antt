use Rattle.std.proofs.Common.{map, rules}
use Rattle.std.proofs.lemmas.List.{take_rest}
use Rattle.std.specs.List.{flat_map}
use Rattle.capture_difference.proofs.Adding.{one_at}
use Rattle.capture_difference.proofs.lines.add_rows.Goals as goal
use Rattle.capture_difference.specs.Lines.{row_text}
use Rattle.capture_difference.specs.Rows.{row_as}

pub rows-preserved : goal.rows-preserved
rows-preserved g c =
    rw take_rest
    (one_at c.args.out.now c.rows.out c.add_row.new.out c.args.form c.rows.rest.now c.row-item.result (flat_map (row_text c.args.form) (map row_as c.args.rows.now)) c.in-len1-up.len_at_least
    (search rules) c.rows.invariant c.add_row.ensures)
