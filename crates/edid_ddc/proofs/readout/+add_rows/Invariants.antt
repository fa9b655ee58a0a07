use Rattle.edid_ddc.proofs.readout.+add_rows.Given as goal

abbrev pub decreases-add_rows : goal.decreases-add_rows
decreases-add_rows g l = l.count
