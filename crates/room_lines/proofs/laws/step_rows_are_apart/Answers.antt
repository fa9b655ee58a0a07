use Rattle.room_lines.proofs.Apart.{step_apart}
use Rattle.room_lines.proofs.laws.step_rows_are_apart.Goals as goal

pub returns : goal.returns
returns c = step_apart
