use Rattle.std.proofs.Common.{◌≡◌, length, drop}
use Rattle.room_steps.specs.Ready.{IsReady, happened, point_of}
use Rattle.room_steps.specs.Steps.{after_events}
use Rattle.room_steps.proofs.Passing.{HearsOn}
use Rattle.room_steps.proofs.position.Position.to_round.Given as goal

-- what is passed and heard of from here on leads where it led from the start
abbrev pub invariant-events : goal.invariant-events
invariant-events g l = record {
  point : after_events l.input.end (point_of l.input.events.items l.self) ≡ after_events l.input.end (point_of l.input.events.items l.fn.self);
  rest : l.self.net.value.rest ≡ l.fn.self.net.value.rest;
  ready : IsReady l.input.end (point_of l.input.events.items l.self);
  heard : HearsOn g.R.Reporter.hears (happened l.input.end (point_of l.input.events.items l.fn.self)) l.fn.reporter l.reporter (happened l.input.end (point_of l.input.events.items l.self));
}

abbrev pub decreases-events : goal.decreases-events
decreases-events g l = length (drop l.self.applied l.input.events.items)
