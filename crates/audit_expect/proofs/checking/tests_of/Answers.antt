use Rattle.std.proofs.Common.{◌≡◌, ◌∙◌, map, ap}
use Rattle.expect_judge.specs.Told.{Told, event_as, kept_as, round_as}
use Rattle.expect_run.specs.Report.{report_as}
use Rattle.audit_expect.proofs.Stateless.{stateless}
use Rattle.audit_expect.proofs.checking.tests_of.Goals as goal

pub returns : goal.returns
returns c =
    let lent : Told = record { rounds = map round_as c.deref.result.now; events = map event_as c.args.events.now } in
    let kept : Told = record { rounds = map kept_as c.args.kept.now; events = map event_as c.args.events.now } in
    let same : lent ≡ kept = λ i. record { rounds = (ap (map round_as) c.deref.ensures.value ∙ c.in_ok-rounds.ensures) i; events = map event_as c.args.events.now } in
    stateless c.args.form c.args.expectations.now lent kept (report_as c.in_ok-draft.draft) same c.in_ok-draft.ensures
