use Rattle.expect_text.proofs.hole.Hole.+is_met_quoted.Given as goal

abbrev pub decreases-is_met_quoted : goal.decreases-is_met_quoted
decreases-is_met_quoted l = l.most
