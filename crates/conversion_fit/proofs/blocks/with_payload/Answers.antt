use Rattle.std.proofs.Common.{◌≡◌, length, ap, ◌∙◌, arith}
use Rattle.std.proofs.lemmas.Grind.{common_steps}
use Rattle.edid_base.proofs.Bytes.{are_bytes-cells}
use Rattle.edid_base.specs.Bytes.{are_bytes}
use Rattle.conversion_fit.proofs.blocks.with_payload.Goals as goal

pub invariant_of-result : goal.invariant_of-result
invariant_of-result c =
    let bytes = c.args.bytes.now in
    let items : c.try_extend_from_slice.new.self.items ≡ bytes = grind (arith, common_steps) in
    let few = c.requires in
    let len = ap length items in
    record {
      short = omega (arith, len, few);
      bytes_fit = ap are_bytes items ∙ are_bytes-cells bytes (λ i. let h = c.type_inv.bytes i in omega (arith, h));
    }
