use Rattle.capture_wires.proofs.definitions.+add_highs.Given as goal

abbrev pub decreases-add_highs : goal.decreases-add_highs
decreases-add_highs g l = l.count
