use Rattle.std.proofs.Common.{◌++◌, ap, ◌∙◌}
use Rattle.std.proofs.Math.Facts.{Fits-lt-pow}
use Rattle.edid_base.proofs.Bytes.{are_bytes-cells}
use Rattle.edid_base.specs.Bytes.{are_bytes}
use Rattle.edid_cta.proofs.audio.tail_of.Goals as goal

pub returns-clause-fit : goal.returns-clause-fit
returns-clause-fit c =
    let items = c.append.ensures.items ∙ ap (λ xs. xs ++ c.args.bytes.now) c.new-tail.ensures in
    ap are_bytes items ∙ are_bytes-cells c.args.bytes.now (λ i. Fits-lt-pow (c.type_inv.bytes i))
