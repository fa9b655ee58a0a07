use Rattle.expect_text.proofs.hole.Hole.+is_met_raw.Given as goal

abbrev pub decreases-is_met_raw : goal.decreases-is_met_raw
decreases-is_met_raw l = l.count
