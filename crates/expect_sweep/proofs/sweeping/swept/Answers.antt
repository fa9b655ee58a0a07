use Rattle.std.proofs.Common.{◌+◌, ap, arith}
use Rattle.expect_sweep.specs.Stretches.{StretchesDraft, draft_as}
use Rattle.expect_sweep.specs.Sweep.{AreVerdictsAt}
use Rattle.expect_sweep.proofs.Refused.{refused_first, refused_later}
use Rattle.expect_sweep.proofs.Stretching.{draft_begun, draft_ended, draft_more, form_is, last_is}
use Rattle.expect_sweep.proofs.Telling.{begun_heard, heard_all, heard_some, one_more, told_more}
use Rattle.expect_sweep.proofs.sweeping.swept.Goals as goal

pub returns-in-Err-clause-reported : goal.returns-in-Err-clause-reported
returns-in-Err-clause-reported g c =
    refused_first c.args.topology.now c.args.script.now c.args.series.now c.from-at.result c.in-Err.error c.from-at.ensures.from c.in-Err.ensures.reported

pub instants-init : goal.instants-init
instants-init g c =
    let F = AreVerdictsAt c.args.topology.now c.args.script.now in
    record {
      within = omega (arith, c.from-at.ensures.from, c.to-to.ensures.to, c.from-at.ensures.series.forward);
      last = ap (λ (d : StretchesDraft). d.last.last) c.new-draft.ensures;
      form = ap (λ (d : StretchesDraft). d.form) c.new-draft.ensures;
      heard = begun_heard g.H.ProgressHearer.hears F c.args.series.now c.args.form (draft_as c.new-draft.result) c.from-at.result c.in-Ok.first.items c.args.hearer.now c.new-draft.ensures;
      is = draft_begun c.args.form F c.args.series.now (draft_as c.new-draft.result) c.from-at.result c.in-Ok.first.items c.from-at.ensures.from c.new-draft.ensures c.from-at.ensures.series.moves c.in-Ok.ensures.ok;
    }

pub returns-in-Err-verdicts_at-clause-reported : goal.returns-in-Err-verdicts_at-clause-reported
returns-in-Err-verdicts_at-clause-reported g c =
    refused_later c.args.topology.now c.args.script.now c.args.series.now (draft_as c.instants.draft) c.instants.at c.step-step.result c.to-to.result c.in-Err-verdicts_at.error
    c.step-step.ensures.step c.to-to.ensures.to c.instants.invariant.last c.step-step.ensures.series.moves c.instants.invariant.within c.instants-test.true c.in-Err-verdicts_at.ensures.reported c.instants.invariant.is

pub instants-preserved : goal.instants-preserved
instants-preserved g c =
    let F = AreVerdictsAt c.args.topology.now c.args.script.now in
    let d = draft_as c.instants.draft in
    let e = draft_as c.add.new.self in
    let t = c.instants.at + c.step-step.result in
    record {
      heard = told_more g.H.ProgressHearer.hears F c.args.series.now d e c.count-count.result c.args.hearer.now c.instants.hearer c.tell.new.hearer
          c.count-count.ensures c.instants.invariant.is (one_more d e t c.in-Ok-verdicts_at.found.items c.in-Ok-add.ensures) c.instants.invariant.heard c.tell.ensures;
      within = omega (arith, c.instants.invariant.within, c.instants-test.true);
      form = form_is d e c.args.form (c.instants.at + c.step-step.result) c.in-Ok-verdicts_at.found.items c.in-Ok-add.ensures c.instants.invariant.form;
      last = last_is d e (c.instants.at + c.step-step.result) c.in-Ok-verdicts_at.found.items c.in-Ok-add.ensures;
      is = draft_more F c.args.series.now d e c.instants.at c.step-step.result c.to-to.result c.in-Ok-verdicts_at.found.items c.step-step.ensures.step c.to-to.ensures.to c.instants.invariant.last
          c.in-Ok-add.ensures c.step-step.ensures.series.moves c.instants.invariant.within c.instants-test.true c.in-Ok-verdicts_at.ensures.ok c.instants.invariant.is;
    }

pub returns-in-Ok-end-clause-ok : goal.returns-in-Ok-end-clause-ok
returns-in-Ok-end-clause-ok g c =
    draft_ended c.args.form (AreVerdictsAt c.args.topology.now c.args.script.now) c.args.series.now (draft_as c.instants.draft) (draft_as c.end.new.self) c.instants.at c.step-step.result c.to-to.result
    c.instants.invariant.form c.step-step.ensures.step c.to-to.ensures.to c.instants.invariant.last c.in-Ok-end.ensures c.step-step.ensures.series.moves c.instants-test.false c.instants.invariant.is

pub returns-in-Ok-end-clause-heard : goal.returns-in-Ok-end-clause-heard
returns-in-Ok-end-clause-heard g c =
    heard_all g.H.ProgressHearer.hears (AreVerdictsAt c.args.topology.now c.args.script.now) c.args.series.now (draft_as c.instants.draft) c.instants.at c.step-step.result c.to-to.result c.args.hearer.now c.instants.hearer
    c.step-step.ensures.step c.to-to.ensures.to c.instants.invariant.last c.step-step.ensures.series.moves c.instants-test.false c.instants.invariant.is c.instants.invariant.heard

pub returns-in-Err-verdicts_at-clause-heard_some : goal.returns-in-Err-verdicts_at-clause-heard_some
returns-in-Err-verdicts_at-clause-heard_some g c =
    heard_some g.H.ProgressHearer.hears (AreVerdictsAt c.args.topology.now c.args.script.now) c.args.series.now (draft_as c.instants.draft) c.count-count.result c.args.hearer.now c.instants.hearer c.tell.new.hearer
    c.count-count.ensures c.instants.invariant.is c.instants.invariant.heard c.tell.ensures

pub returns-in-Err-add-clause-heard_some : goal.returns-in-Err-add-clause-heard_some
returns-in-Err-add-clause-heard_some g c =
    heard_some g.H.ProgressHearer.hears (AreVerdictsAt c.args.topology.now c.args.script.now) c.args.series.now (draft_as c.instants.draft) c.count-count.result c.args.hearer.now c.instants.hearer c.tell.new.hearer
    c.count-count.ensures c.instants.invariant.is c.instants.invariant.heard c.tell.ensures
