use Rattle.room_lines.proofs.Apart.{topology_apart}
use Rattle.room_lines.proofs.laws.topology_rows_are_apart.Goals as goal

pub returns : goal.returns
returns c = topology_apart
