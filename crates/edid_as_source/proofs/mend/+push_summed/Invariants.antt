use Rattle.edid_as_source.proofs.mend.+push_summed.Given as goal

abbrev pub decreases-push_summed : goal.decreases-push_summed
decreases-push_summed l = l.count
