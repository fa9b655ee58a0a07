use Rattle.std.proofs.Common.{map, nat_eq, arith}
use Rattle.std.specs.HashMap.{get}
use Rattle.text_core.specs.Lines.{lines_of}
use Rattle.expect_judge.specs.Told.{told_as}
use Rattle.expect_judge.specs.Judged.{finding_as}
use Rattle.expect_judge.proofs.Judging.{one_more}
use Rattle.expect_judge.proofs.judge.judged_by.Goals as goal

pub lines-preserved : goal.lines-preserved
lines-preserved c = record {
  same = one_more c.args.labels.now.script.now (told_as c.args.index.now.told) c.in-Some.line.now (lines_of c.lines.rest.now) (lines_of c.in-Some.after.now)
      (map (λ state. state.items) c.lines.left.now) (map (λ state. state.items) c.later_states-left.result.now)
      (map (λ text. text.items) c.lines.texts_left.now) (map (λ text. text.items) c.later_states-texts_left.result.now)
      (λ number. get nat_eq c.lines.instants number) (λ number. get nat_eq c.note_instant.new.instants number) c.lines.number c.first_state-state.result.now c.first_state-below.result.now c.line_judged-judged.result
      (map finding_as c.lines.found.items) (map finding_as c.add_finding.new.found.items) _ c.is_of_state-of_state.result
      c.in-Some.ensures.lines c.is_of_state-of_state.ensures c.first_state-state.ensures c.later_states-left.ensures c.first_state-below.ensures c.later_states-texts_left.ensures c.line_judged-judged.ensures c.in_ok-note_instant.ensures c.in_ok-add_finding.ensures c.lines.invariant.same;
  room = omega (arith, c.lines.invariant.room, c.in-Some.ensures.shorter);
}
