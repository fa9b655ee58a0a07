use Rattle.std.proofs.Common.{◌≡◌, ℕ, ◌⊎◌}
use Rattle.room_steps.specs.Ready.{Brings, IsReady, point_of}
use Rattle.room_steps.specs.Steps.{Skips}
use Rattle.room_steps.proofs.walk.Walk.leap.Given as goal

-- none of the rounds so far is looked for, and each brought the rest on
abbrev pub invariant-rounds : goal.invariant-rounds
invariant-rounds l = record {
  skips : (rounds : ℕ) × Skips l.self.run.end l.at rounds (point_of l.self.run.events l.fn.here) (point_of l.self.run.events l.ahead);
  ready : IsReady l.self.run.end (point_of l.self.run.events l.ahead);
  goes : ((l.counter ≡ 0) × (point_of l.self.run.events l.ahead ≡ point_of l.self.run.events l.fn.here)) ⊎ Brings l.self.run.end (point_of l.self.run.events l.fn.here) (point_of l.self.run.events l.ahead);
}
