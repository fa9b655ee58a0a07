use Rattle.std.proofs.Common.{take, arith, refl, ap, ◌∙◌}
use Rattle.edid_texts.proofs.Trims.{more_zero, more_some}
use Rattle.edid_texts.proofs.value_to_lines.trimmed_len.Goals as goal
use Rattle.edid_texts.proofs.value_to_lines.trimmed_len.Goals.{then-byte-ne0, else-byte-ne0}

pub loop-i-preserved : goal.loop-i-preserved
loop-i-preserved c = elim c.if-byte-ne0.branch [
  | then-byte-ne0 w ↦ record {
    within = omega arith;
    front = ap (λ n. take n c.args.bytes.now) w.len-is ∙ more_some c.args.bytes.now c.loop-i.i _ c.loop-i-test.true refl w.if-byte-ne0.true;
  }
  | else-byte-ne0 w ↦ record {
    within = omega arith;
    front = ap (λ n. take n c.args.bytes.now) w.len-is ∙ more_zero c.args.bytes.now c.loop-i.i c.loop-i.len _ c.loop-i-test.true refl w.if-byte-ne0.false c.loop-i.invariant.front;
  }
]
