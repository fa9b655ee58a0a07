use Rattle.expect_text.proofs.hole.Hole.+is_met_spoilt_from.Given as goal

abbrev pub decreases-is_met_spoilt_from : goal.decreases-is_met_spoilt_from
decreases-is_met_spoilt_from l = l.count
