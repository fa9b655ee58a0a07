use Rattle.expect_text.proofs.said.+repeat.Given as goal

abbrev pub decreases-repeat : goal.decreases-repeat
decreases-repeat l = l.count
