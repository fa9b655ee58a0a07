use Rattle.std.proofs.Common.{◌+◌, ℕ, List, Ok, Err, refl, sym, subst, arith}
use Rattle.std.proofs.lemmas.Result.{err_from_is_err_and}
use Rattle.live_incoming.specs.Incoming.{IsWhole, Leads}
use Rattle.live_dialogue.specs.Dialogue.{held}
use Rattle.live_dialogue.proofs.Answered.{answer_stops, filled, line_quiet, line_stops, no_end, over, so_far_more, so_far_start}
use Rattle.live_dialogue.proofs.Putting.{handed_on, handed_same, is_stuck}
use Rattle.live_dialogue.proofs.dialogue.answer.Goals as goal

pub loop-answered-init : goal.loop-answered-init
loop-answered-init g c = record {
  so_far = so_far_start c.args.incoming.now.rest (held g.S.Sink.contents c.args.out.now) c.args.live.now;
  going = c.requires.going;
  handed = handed_same is_stuck c.args.out.now (Ok tt) refl;
}

pub answer_line-requires : goal.answer_line-requires
answer_line-requires g c = record { going = c.loop-answered.invariant.going }

pub returns-in_err-next_line-clause-answered : goal.returns-in_err-next_line-clause-answered
returns-in_err-next_line-clause-answered g c =
    let at = c.loop-answered in
    let p = err_from_is_err_and c.from_residual.result c.from_residual.ensures.1 in
    rw (p.1, p.2)
    (line_stops c.args.incoming.now.rest at.incoming.rest c.next_line.new.incoming.rest c.args.live.now at.live (held g.S.Sink.contents c.args.out.now) (held g.S.Sink.contents at.out) c.next_line.new.incoming.line at.answered
    c.in_err-next_line.field-0.0 at.invariant.so_far at.invariant.going c.loop-answered-test.true c.in_err-next_line.ensures)

pub returns-in_err-next_line-clause-handed : goal.returns-in_err-next_line-clause-handed
returns-in_err-next_line-clause-handed g c =
    let at = c.loop-answered in
    let p = err_from_is_err_and c.from_residual.result c.from_residual.ensures.1 in
    rw (p.1, p.2)
    (handed_on is_stuck c.args.out.now at.out at.out (Err c.in_err-next_line.field-0.0) at.invariant.handed
    (handed_same is_stuck at.out (Err c.in_err-next_line.field-0.0)
    (line_quiet at.incoming.rest c.next_line.new.incoming.rest c.next_line.new.incoming.line (at.answered + 1) c.in_err-next_line.field-0.0 c.in_err-next_line.ensures)))

pub returns-in_err-answer_line-clause-answered : goal.returns-in_err-answer_line-clause-answered
returns-in_err-answer_line-clause-answered g c =
    let at = c.loop-answered in
    let p = err_from_is_err_and c.from_residual-in_err-answer_line.result c.from_residual-in_err-answer_line.ensures.1 in
    rw (p.1, p.2)
    (answer_stops c.args.incoming.now.rest at.incoming.rest c.next_line.new.incoming.rest c.args.live.now at.live c.answer_line.new.live
    (held g.S.Sink.contents c.args.out.now) (held g.S.Sink.contents at.out) (held g.S.Sink.contents c.answer_line.new.out) c.last.result.now at.answered
    c.in_err-answer_line.field-0.0 at.invariant.so_far c.loop-answered-test.true
    (subst (λ (line : List ℕ). IsWhole line × Leads at.incoming.rest c.next_line.new.incoming.rest line) (sym c.last.ensures.value) c.in_ok-next_line.ensures) c.in_err-answer_line.ensures.answered)

pub returns-then-is_over-clause-answered : goal.returns-then-is_over-clause-answered
returns-then-is_over-clause-answered g c =
    let at = c.loop-answered in
    let more = so_far_more c.args.incoming.now.rest at.incoming.rest c.next_line.new.incoming.rest c.args.live.now at.live c.answer_line.new.live
    (held g.S.Sink.contents c.args.out.now) (held g.S.Sink.contents at.out) (held g.S.Sink.contents c.answer_line.new.out) c.last.result.now at.answered
    at.invariant.so_far c.loop-answered-test.true (subst (λ (line : List ℕ). IsWhole line × Leads at.incoming.rest c.next_line.new.incoming.rest line) (sym c.last.ensures.value) c.in_ok-next_line.ensures) c.in_ok-answer_line.ensures.answered in
    over c.args.incoming.now.rest c.next_line.new.incoming.rest c.args.live.now c.answer_line.new.live
    (held g.S.Sink.contents c.args.out.now) (held g.S.Sink.contents c.answer_line.new.out) (at.answered + 1) c.is_over.result more c.is_over.ensures c.if-is_over.true

pub loop-answered-preserved : goal.loop-answered-preserved
loop-answered-preserved g c =
    let at = c.loop-answered in
    record {
      so_far = so_far_more c.args.incoming.now.rest at.incoming.rest c.next_line.new.incoming.rest c.args.live.now at.live c.answer_line.new.live
          (held g.S.Sink.contents c.args.out.now) (held g.S.Sink.contents at.out) (held g.S.Sink.contents c.answer_line.new.out) c.last.result.now at.answered
          at.invariant.so_far c.loop-answered-test.true (subst (λ (line : List ℕ). IsWhole line × Leads at.incoming.rest c.next_line.new.incoming.rest line) (sym c.last.ensures.value) c.in_ok-next_line.ensures) c.in_ok-answer_line.ensures.answered;
      going = no_end c.answer_line.new.live.notes.end c.is_over.result c.is_over.ensures c.if-is_over.false;
      handed = handed_on is_stuck c.args.out.now at.out c.answer_line.new.out (Ok tt) at.invariant.handed c.in_ok-answer_line.ensures.handed;
    }

pub returns-clause-answered : goal.returns-clause-answered
returns-clause-answered g c =
    let at = c.loop-answered in
    filled c.args.incoming.now.rest at.incoming.rest c.args.live.now at.live (held g.S.Sink.contents c.args.out.now) (held g.S.Sink.contents at.out)
    at.answered at.invariant.so_far at.invariant.going (omega (arith, c.loop-answered-test.false))
