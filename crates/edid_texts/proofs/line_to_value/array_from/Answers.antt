use Rattle.std.proofs.Common.{◌≡◌, ap, ◌∙◌, arith}
use Rattle.std.proofs.lemmas.Grind.{common_steps}
use Rattle.edid_base.proofs.Bytes.{are_bytes-cells}
use Rattle.edid_base.specs.Bytes.{are_bytes}
use Rattle.edid_texts.proofs.line_to_value.array_from.Goals as goal

pub returns-clause-fit : goal.returns-clause-fit
returns-clause-fit g c =
    let same : c.unwrap.result ≡ c.args.bytes.now = grind (arith, common_steps) in
    ap are_bytes same ∙ are_bytes-cells c.args.bytes.now (λ i. let h = c.type_inv.bytes i in omega (arith, h))
