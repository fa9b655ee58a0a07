use Rattle.std.proofs.Common.{◌∙◌, arith}
use Rattle.text_core.proofs.SinkLemmas.{Appends-more, flag_kept}
use Rattle.text_core.proofs.sink.put_all.Goals as goal

pub loop-written-preserved : goal.loop-written-preserved
loop-written-preserved g c = record {
  in_text = omega arith;
  so_far = Appends-more _ _ _ c.args.text.now c.loop-written.written c.put-taken.result c.loop-written.invariant.so_far c.put-taken.ensures.bytes;
  flag = c.put-taken.ensures.stuck ∙ flag_kept _ _ _ c.if-taken-eq0.false ∙ c.loop-written.invariant.flag;
}
