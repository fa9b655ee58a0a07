use Rattle.std.proofs.Common.{◌≡◌, length}
use Rattle.piece_audit.specs.Wide.{lows_from}
use Rattle.capture_signs.proofs.Running.{no_run, runs_on}
use Rattle.capture_signs.proofs.runs.run_count.Given as goal

abbrev pub invariant-lows : goal.invariant-lows
invariant-lows l = runs_on l.kind l.shortest l.tally (lows_from l.left) ≡ runs_on l.kind l.shortest no_run (lows_from l.edges)

abbrev pub decreases-lows : goal.decreases-lows
decreases-lows l = length l.left
