use Rattle.capture_core.proofs.Ends as Ends
use Rattle.capture_core.proofs.Recording as Recording
use Rattle.capture_core.proofs.laws.edges_are_in_turn.Goals as goal

pub returns-clause-before : goal.returns-clause-before
returns-clause-before c = Recording.before_turn

pub returns-clause-sooner : goal.returns-clause-sooner
returns-clause-sooner c = Recording.sooner_turn

pub returns-clause-early : goal.returns-clause-early
returns-clause-early c = Ends.edge_by
