use Rattle.std.proofs.Common.{ℕ, ◌-◌}
use Rattle.line_wave.specs.Bounds.{latest_instant}
use Rattle.room_steps.specs.Ready.{IsReady, point_of}
use Rattle.room_steps.specs.Steps.{Skips}
use Rattle.room_steps.proofs.walk.Walk.search.Given as goal

-- none of the rounds so far is looked for
abbrev pub invariant-rounds : goal.invariant-rounds
invariant-rounds l = record {
  skips : (rounds : ℕ) × Skips l.self.run.end l.at rounds l.self.last (point_of l.self.run.events l.before);
  ready : IsReady l.self.run.end (point_of l.self.run.events l.before);
}

abbrev pub decreases-rounds : goal.decreases-rounds
decreases-rounds l = latest_instant - l.before.net.value.rest

-- nor of those that were leapt over
abbrev pub invariant-leaps : goal.invariant-leaps
invariant-leaps l = record {
  skips : (rounds : ℕ) × Skips l.self.run.end l.at rounds l.self.last (point_of l.self.run.events l.before);
  ready : IsReady l.self.run.end (point_of l.self.run.events l.before);
}

abbrev pub decreases-leaps : goal.decreases-leaps
decreases-leaps l = latest_instant - l.before.net.value.rest
