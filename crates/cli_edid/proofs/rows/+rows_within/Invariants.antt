use Rattle.cli_edid.proofs.rows.+rows_within.Given as goal

abbrev pub decreases-rows_within : goal.decreases-rows_within
decreases-rows_within l = l.most
