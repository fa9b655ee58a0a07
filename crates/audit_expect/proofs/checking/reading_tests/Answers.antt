use Rattle.std.proofs.Common.{◌≡◌, ◌∙◌, map, ap}
use Rattle.expect_judge.specs.Told.{Told, event_as, kept_as}
use Rattle.expect_run.specs.Report.{tests}
use Rattle.audit_expect.specs.Marks.{capture_told, no_states}
use Rattle.audit_expect.proofs.checking.reading_tests.Goals as goal

pub returns : goal.returns
returns c =
    let text = c.args.expectations.now in
    let kept : Told = record { rounds = map kept_as c.deref.result.now; events = map event_as c.deref-2.result.now } in
    let same : kept ≡ capture_told c.args.form text c.args.capture.now = λ i. record {
      rounds = (ap (map kept_as) c.deref.ensures.value ∙ c.in_ok-kept.ensures) i;
      events = (ap (map event_as) c.deref-2.ensures.value ∙ c.in_ok-events.ensures) i;
    } in
    c.in_ok-draft.ensures ∙ ap (λ (told : Told). tests c.args.form text told (no_states text) (no_states text)) same
