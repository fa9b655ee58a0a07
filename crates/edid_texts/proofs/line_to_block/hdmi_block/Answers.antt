use Rattle.std.proofs.Common.{◌≡◌, ◌<◌, ◌∷◌, length, ap, ◌∙◌, arith}
use Rattle.std.proofs.lemmas.Grind.{common_steps}
use Rattle.edid_base.proofs.Bytes.{are_bytes-cells, are_bytes-cons}
use Rattle.edid_base.specs.Bytes.{are_bytes}
use Rattle.edid_texts.proofs.line_to_block.hdmi_block.Goals as goal

pub invariant_of-result : goal.invariant_of-result
invariant_of-result c =
    let p = c.args.phys in
    let bytes = c.args.bytes.now in
    let items : c.try_extend_from_slice-2.new.self.items ≡ 3 ∷ 12 ∷ 0 ∷ p.high ∷ p.low ∷ bytes = grind (arith, common_steps) in
    let few = c.requires in
    let len = ap length items in
    let high : p.high < 256 = omega arith in
    let low : p.low < 256 = omega arith in
    record {
      short = omega (arith, len, few);
      bytes_fit = ap are_bytes items ∙ are_bytes-cons p.high (p.low ∷ bytes) high (are_bytes-cons p.low bytes low (are_bytes-cells bytes (λ i. let h = c.type_inv.bytes i in omega (arith, h))));
    }
