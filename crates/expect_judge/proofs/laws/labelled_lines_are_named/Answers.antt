use Rattle.expect_judge.proofs.Naming as Naming
use Rattle.expect_judge.proofs.laws.labelled_lines_are_named.Goals as goal

pub returns : goal.returns
returns c = Naming.label_names
