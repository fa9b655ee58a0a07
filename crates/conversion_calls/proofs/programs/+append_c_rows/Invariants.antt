use Rattle.conversion_calls.proofs.programs.+append_c_rows.Given as goal

abbrev pub decreases-append_c_rows : goal.decreases-append_c_rows
decreases-append_c_rows l = l.count
