use Rattle.std.proofs.Common.{◌≡◌, length, map}
use Rattle.expect_judge.specs.Told.{event_as, event_at}
use Rattle.expect_judge.proofs.lines.event_at.Given as goal

-- none before is of the line
abbrev pub invariant-events : goal.invariant-events
invariant-events l = event_at (map event_as l.events) l.number ≡ event_at (map event_as l.rest) l.number

abbrev pub decreases-events : goal.decreases-events
decreases-events l = length l.rest
