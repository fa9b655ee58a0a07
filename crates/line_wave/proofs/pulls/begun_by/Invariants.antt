use Rattle.std.proofs.Common.{◌≡◌, ◌≤◌, ◌-◌, nat_lt, filter, drop, length}
use Rattle.line_wave.specs.declared.Stretch.{Stretch}
use Rattle.line_wave.proofs.pulls.begun_by.Given as goal

abbrev pub invariant-begun : goal.invariant-begun
invariant-begun l = record {
  few : l.begun ≤ length l.pulls;
  rest : filter (λ (p : Stretch). nat_lt l.instant p.from) (drop l.begun l.pulls)
      ≡ filter (λ (p : Stretch). nat_lt l.instant p.from) l.pulls;
}

abbrev pub decreases-begun : goal.decreases-begun
decreases-begun l = length l.pulls - l.begun
