use Rattle.live_incoming.proofs.Coming.{lines_again}
use Rattle.live_incoming.proofs.laws.texts_of_lines_have_those_lines.Goals as goal

pub returns : goal.returns
returns c = lines_again
