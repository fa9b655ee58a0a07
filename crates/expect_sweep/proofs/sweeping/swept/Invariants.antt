use Rattle.std.proofs.Common.{◌≡◌, ◌-◌, ◌/◌, ◌≤◌}
use Rattle.expect_sweep.specs.Progress.{IsHeardTo, told_each}
use Rattle.expect_sweep.specs.Stretches.{draft_as}
use Rattle.expect_sweep.specs.Sweep.{AreVerdictsAt}
use Rattle.expect_sweep.proofs.Stretching.{IsDraft}
use Rattle.expect_sweep.proofs.sweeping.swept.Given as goal

-- the instants so far, and what was heard of them
abbrev pub invariant-instants : goal.invariant-instants
invariant-instants g l = record {
  within : l.at ≤ l.to;
  last : (draft_as l.draft).last.last ≡ l.at;
  form : (draft_as l.draft).form ≡ l.fn.form;
  is : IsDraft (AreVerdictsAt l.topology l.script) l.series (draft_as l.draft);
  heard : IsHeardTo g.H.ProgressHearer.hears (AreVerdictsAt l.topology l.script) l.series ((l.draft.done - 1) / told_each) l.fn.hearer l.hearer;
}

abbrev pub decreases-instants : goal.decreases-instants
decreases-instants g l = l.to - l.at
