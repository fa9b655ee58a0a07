use Rattle.room_lines.proofs.Apart.{session_apart}
use Rattle.room_lines.proofs.laws.session_rows_are_apart.Goals as goal

pub returns : goal.returns
returns c = session_apart
