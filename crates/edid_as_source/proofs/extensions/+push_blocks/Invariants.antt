use Rattle.edid_as_source.proofs.extensions.+push_blocks.Given as goal

abbrev pub decreases-push_blocks : goal.decreases-push_blocks
decreases-push_blocks l = l.count
