use Rattle.room_lines.proofs.Apart.{expect_apart}
use Rattle.room_lines.proofs.laws.expect_rows_are_apart.Goals as goal

pub returns : goal.returns
returns c = expect_apart
