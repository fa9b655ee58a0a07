use Rattle.expect_text.proofs.hole.Hole.+is_met_spoilt_at.Given as goal

abbrev pub decreases-is_met_spoilt_at : goal.decreases-is_met_spoilt_at
decreases-is_met_spoilt_at l = l.count
