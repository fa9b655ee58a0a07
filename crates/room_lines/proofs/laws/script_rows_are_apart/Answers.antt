use Rattle.room_lines.proofs.Apart.{script_apart}
use Rattle.room_lines.proofs.laws.script_rows_are_apart.Goals as goal

pub returns : goal.returns
returns c = script_apart
