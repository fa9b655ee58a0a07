use Rattle.std.proofs.Common.{◌∙◌, arith, sym, ap, length}
use Rattle.std.proofs.lemmas.Option.{slice_get_within}
use Rattle.edid_texts.proofs.Gets.{few_parts}
use Rattle.edid_texts.specs.Lines.{part_lines}
use Rattle.library_wire.proofs.Puts.{has_room, longer, put_all, put_more}
use Rattle.library_wire.proofs.edids.put_lines.Goals as goal

pub put_at-requires : goal.put_at-requires
put_at-requires c =
    has_room (part_lines c.args.base.now c.args.extensions.now) c.lines.number c.lines.length c.in-Some.line c.as_slice.result.now c.args.room.now c.lines.room
    c.in-Some.ensures c.lines.invariant.count (c.as_slice.ensures.value ∙ c.write-text.ensures) c.lines.invariant.so_far c.requires.fits

pub lines-preserved : goal.lines-preserved
lines-preserved c =
    let i = c.lines.invariant in
    let ls = part_lines c.args.base.now c.args.extensions.now in
    let there = slice_get_within ls c.lines.number c.in-Some.line c.in-Some.ensures in
    let few = few_parts c.args.base.now c.args.extensions.now c.requires.few in
    let bound = i.bound in
    let same = c.as_slice.ensures.value ∙ c.write-text.ensures in
    let size = c.len-length.ensures.value ∙ ap length (sym c.as_slice.ensures.value) in
    record {
      so_far = put_more ls c.lines.number c.lines.length c.len-length.result c.in-Some.line c.as_slice.result.now c.args.room.now c.lines.room c.put_at.new.room
          c.in-Some.ensures i.count same size i.so_far c.put_at.ensures;
      count = longer ls c.lines.number c.lines.length c.len-length.result c.in-Some.line c.as_slice.result.now c.in-Some.ensures i.count same size;
      bound = omega (arith, bound, c.len-length.ensures.fits);
      few = omega (arith, there, few);
    }

pub returns : goal.returns
returns c = put_all (part_lines c.args.base.now c.args.extensions.now) c.lines.number c.lines.length c.args.room.now c.lines.room c.in_default.ensures c.lines.invariant.count c.lines.invariant.so_far
