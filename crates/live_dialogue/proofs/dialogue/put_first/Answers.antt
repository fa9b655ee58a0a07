use Rattle.text_core.specs.Buffered.{handed_count}
use Rattle.live_dialogue.specs.Dialogue.{held}
use Rattle.live_dialogue.proofs.Answered.{first_is}
use Rattle.live_dialogue.proofs.Putting.{fails, is_stuck, reports}
use Rattle.live_dialogue.proofs.dialogue.put_first.Goals as goal

pub returns-clause-first : goal.returns-clause-first
returns-clause-first g c =
    let old = c.args.out.now in
    let mid = c.write_start.new.out in
    let new = c.hand_on.new.out in
    first_is c.args.live.now (held g.S.Sink.contents old) (held g.S.Sink.contents mid) (held g.S.Sink.contents new) (is_stuck old) (is_stuck mid) c.write_start.result (handed_count new) c.hand_on.result
    c.write_start.ensures c.hand_on.ensures.bytes (fails is_stuck mid new c.hand_on.result c.hand_on.ensures.flushed) (reports is_stuck mid new c.hand_on.result c.hand_on.ensures.flushed)
