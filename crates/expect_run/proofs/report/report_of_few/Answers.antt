use Rattle.std.proofs.Common.{◌≡◌, map, sym, ap, ◌∙◌}
use Rattle.expect_judge.specs.Told.{Told, event_as, kept_as, round_as}
use Rattle.text_core.specs.Lines.{lines_of}
use Rattle.expect_judge.specs.Judged.{findings_of, states_for}
use Rattle.expect_run.specs.Report.{report_as}
use Rattle.expect_run.specs.Sifted.{told_kept}
use Rattle.expect_run.specs.States.{said_in, shown_in}
use Rattle.expect_run.proofs.Kept.{kept_is_enough}
use Rattle.expect_run.proofs.report.report_of_few.Goals as goal

pub returns : goal.returns
returns c = λ told are timed.
    let script = c.args.labels.now.script.now in
    let lent : Told = record { rounds = map round_as c.deref-2.result.now; events = map event_as c.deref-3.result.now } in
    let same : lent ≡ told_kept c.args.few.now = λ i. record {
      rounds = (ap (map round_as) c.deref-2.ensures.value ∙ c.in_ok-rounds.ensures ∙ ap (map kept_as) c.deref.ensures.value) i;
      events = (ap (map event_as) c.deref-3.ensures.value) i;
    } in
    let states = said_in c.args.states.now in
    let texts = shown_in c.args.states.now in
    let found = c.in_ok-found.ensures
    ∙ ap (λ ss. findings_of script lent (states_for (lines_of script) (map (λ text. text.items) ss)) (states_for (lines_of script) (map (λ text. text.items) c.deref-5.result.now))) c.deref-4.ensures.value
    ∙ ap (λ ss. findings_of script lent (states_for (lines_of script) states) (states_for (lines_of script) (map (λ text. text.items) ss))) c.deref-5.ensures.value in
    kept_is_enough c.args.form script lent told states texts c.in_ok-found.found.items c.deref-6.result.now c.deref-7.result.now (report_as c.in_ok-draft.draft) (same ∙ are)
    found c.deref-6.ensures.value (sym c.is_any_unmet.ensures ∙ c.if-is_any_unmet.false) c.deref-7.ensures.value c.in_ok-draft.ensures timed
