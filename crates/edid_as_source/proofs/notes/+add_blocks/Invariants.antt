use Rattle.edid_as_source.proofs.notes.+add_blocks.Given as goal

abbrev pub decreases-add_blocks : goal.decreases-add_blocks
decreases-add_blocks g l = l.count
