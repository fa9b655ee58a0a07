use Rattle.std.proofs.Common.{◌≡◌, ◌+◌, ◌≤◌, length, filter}
use Rattle.std.specs.Prelude.{not}
use Rattle.expect_run.proofs.checking.failed_in.Given as goal

-- those that failed so far, and those that are left
abbrev pub invariant-verdicts : goal.invariant-verdicts
invariant-verdicts l = record {
  same : l.count + length (filter not l.rest) ≡ length (filter not l.verdicts);
  room : l.count + length l.rest ≤ length l.verdicts;
}

abbrev pub decreases-verdicts : goal.decreases-verdicts
decreases-verdicts l = length l.rest
