use Rattle.std.proofs.Common.{◌≡◌, length, map}
use Rattle.expect_judge.specs.Told.{event_as}
use Rattle.expect_run.specs.Report.{report_as, with_refusals}
use Rattle.expect_run.proofs.report.add_refusals.Given as goal

-- the tests of those before, and then of those that are left
abbrev pub invariant-events : goal.invariant-events
invariant-events l = with_refusals l.form l.expected.script.now (report_as l.draft) (map event_as l.rest) ≡ with_refusals l.form l.expected.script.now (report_as l.fn.draft) (map event_as l.events)

abbrev pub decreases-events : goal.decreases-events
decreases-events l = length l.rest
