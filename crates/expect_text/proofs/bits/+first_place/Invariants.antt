use Rattle.expect_text.proofs.bits.+first_place.Given as goal

abbrev pub decreases-first_place : goal.decreases-first_place
decreases-first_place l = l.count
