use Rattle.std.proofs.Common.{ap, arith, length, length-drop}
use Rattle.conversion_fields.proofs.Adding.{ext_added}
use Rattle.conversion_fields.proofs.whole.add_ext_bytes.Goals as goal

pub add_section-requires-clause-few : goal.add_section-requires-clause-few
add_section-requires-clause-few g c =
    let sum = ap length c.after-sum.ensures in
    let dropped = length-drop 127 c.args.bytes.now in
    omega (arith, sum, dropped, c.told-bytes)

pub returns : goal.returns
returns g c =
    ext_added c.args.number c.args.ext.now c.args.bytes.now c.after-sum.result.now c.args.out.now c.add_front.new.out c.add_section.new.out c.requires c.after-sum.ensures
    c.add_front.ensures c.add_section.ensures
