use Rattle.std.proofs.Common.{◌==◌, arith}
use Rattle.edid_spelling.proofs.Parts.{parted, whole}
use Rattle.edid_spelling.proofs.rows.first_part.Goals as goal

pub returns-then-end-text : goal.returns-then-end-text
returns-then-end-text c =
    parted (λ b. b == c.args.separator) c.args.text.now _ _ c.len_before-end.result c.len_before-end.ensures.value c.if-end-text.true c.before-then-end-text.ensures c.after.ensures

pub returns-else-end-text : goal.returns-else-end-text
returns-else-end-text c = whole (λ b. b == c.args.separator) c.args.text.now c.len_before-end.result c.len_before-end.ensures.value (omega (arith, c.if-end-text.false))
