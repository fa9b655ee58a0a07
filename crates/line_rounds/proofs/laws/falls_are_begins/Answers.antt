use Rattle.line_rounds.proofs.Falls as Falls
use Rattle.line_rounds.proofs.laws.falls_are_begins.Goals as goal

pub returns : goal.returns
returns c = Falls.round_fall_by
