use Rattle.std.specs.Prelude.{IsSome}
use Rattle.run_tests.proofs.network_edges.reports.Given as goal

abbrev pub invariant-loop-at : goal.invariant-loop-at
invariant-loop-at g l = IsSome l.net.heard
