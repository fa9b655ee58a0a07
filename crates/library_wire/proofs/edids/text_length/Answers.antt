use Rattle.std.proofs.Common.{arith}
use Rattle.std.proofs.lemmas.Option.{slice_get_within}
use Rattle.edid_texts.proofs.Gets.{few_parts}
use Rattle.edid_texts.specs.Lines.{part_lines}
use Rattle.library_wire.proofs.Puts.{all_long, longer}
use Rattle.library_wire.proofs.edids.text_length.Goals as goal

pub lines-preserved : goal.lines-preserved
lines-preserved c =
    let i = c.lines.invariant in
    let ls = part_lines c.args.base.now c.args.extensions.now in
    let there = slice_get_within ls c.lines.number c.in-Some.line c.in-Some.ensures in
    let few = few_parts c.args.base.now c.args.extensions.now c.requires in
    let bound = i.bound in
    record {
      count = longer ls c.lines.number c.lines.length c.len-length.result c.in-Some.line c.write.result.items c.in-Some.ensures i.count c.write.ensures c.len-length.ensures.value;
      bound = omega (arith, bound, c.len-length.ensures.fits);
      few = omega (arith, there, few);
    }

pub returns : goal.returns
returns c = all_long (part_lines c.args.base.now c.args.extensions.now) c.lines.number c.lines.length c.in_default.ensures c.lines.invariant.count
