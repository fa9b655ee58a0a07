use Rattle.std.proofs.Common.{◌≡◌, ◌%◌, [], ◌∷◌, take, arith, ap, sym, ◌∙◌}
use Rattle.std.proofs.Math.Facts.{Fits-lt-pow}
use Rattle.std.proofs.lemmas.Grind.{common_steps}
use Rattle.edid_base.proofs.Bytes.{are_bytes-cells, are_bytes-take, are_bytes-after}
use Rattle.edid_base.specs.Bytes.{are_bytes}
use Rattle.edid_cta.proofs.reading.first_block.Goals as goal

pub invariant_of-result-clause-bytes_fit : goal.invariant_of-result-clause-bytes_fit
invariant_of-result-clause-bytes_fit c =
    let bytes = c.args.bytes.now in
    let head = c.in_ok-head.head.now in
    let rest = c.in_ok-head.rest.now in
    let whole : bytes ≡ head ∷ rest = grind (arith, common_steps) in
    let items : c.try_extend_from_slice.new.self.items ≡ take (head % 32) rest = grind (arith, common_steps) in
    let after = are_bytes-after (head ∷ []) rest (sym (ap are_bytes whole) ∙ are_bytes-cells bytes (λ i. Fits-lt-pow (c.type_inv.bytes i))) in
    ap are_bytes items ∙ are_bytes-take (head % 32) rest after
