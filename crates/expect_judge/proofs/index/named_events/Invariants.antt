use Rattle.std.proofs.Common.{◌≡◌, ℕ, true, length, map}
use Rattle.expect_judge.specs.Told.{event_as, event_at}
use Rattle.expect_judge.specs.Named.{is_named}
use Rattle.expect_judge.specs.Index.{entry, or_event}
use Rattle.expect_judge.proofs.index.named_events.Given as goal

-- each event is that of those before, or else that of those that are left
abbrev pub invariant-events : goal.invariant-events
invariant-events l = (number : ℕ) → is_named l.named.script.now number ≡ true
    → or_event (entry l.events number) (event_at (map event_as l.rest) number) ≡ event_at (map event_as l.told) number

abbrev pub decreases-events : goal.decreases-events
decreases-events l = length l.rest
