use Rattle.conversion_fit.proofs.codes.+add_packed.Given as goal

abbrev pub decreases-add_packed : goal.decreases-add_packed
decreases-add_packed l = l.count
