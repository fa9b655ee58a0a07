use Rattle.std.proofs.Common.{◌≡◌, length, take, slice_get, flat_map, ◌∙◌, ap, sym, arith, length-append}
use Rattle.std.proofs.lemmas.Option.{slice_get_within}
use Rattle.edid_texts.specs.Lines.{part_lines}
use Rattle.edid_text_lines.specs.Text.{line_text}
use Rattle.edid_texts.proofs.Gets.{few_parts}
use Rattle.edid_texts.proofs.Writes.{wrote_more, wrote_all, cut_line, text_more}
use Rattle.edid_texts.proofs.writing.write_parts.Goals as goal

pub returns-in-Err : goal.returns-in-Err
returns-in-Err g c =
    let i = c.loop-line.invariant in
    let at = ap (λ xs. slice_get (part_lines c.args.base.now xs) c.loop-line.number) (sym c.as_slice-extensions.ensures.value) ∙ c.in-Some.ensures in
    let same : c.as_slice.result.now ≡ line_text c.in-Some.line = c.as_slice.ensures.value ∙ c.write-text.ensures in
    let fault = c.in-Err.ensures.err in
    let cut = cut_line (part_lines c.args.base.now c.args.extensions.now.items) c.loop-line.number c.in-Err.fault.count c.loop-line.written c.in-Some.line c.as_slice.result.now _ _ _ same at i.count
    fault.0 i.so_far fault.1 in
    (cut.0, cut.1, c.in-Err.ensures.stuck)

pub loop-line-preserved : goal.loop-line-preserved
loop-line-preserved g c =
    let i = c.loop-line.invariant in
    let at = ap (λ xs. slice_get (part_lines c.args.base.now xs) c.loop-line.number) (sym c.as_slice-extensions.ensures.value) ∙ c.in-Some.ensures in
    let same : c.as_slice.result.now ≡ line_text c.in-Some.line = c.as_slice.ensures.value ∙ c.write-text.ensures in
    let more = text_more (part_lines c.args.base.now c.args.extensions.now.items) c.loop-line.number c.in-Some.line at in
    let len = ap length more ∙ length-append (flat_map line_text (take c.loop-line.number (part_lines c.args.base.now c.args.extensions.now.items))) (line_text c.in-Some.line) in
    let there = slice_get_within (part_lines c.args.base.now c.args.extensions.now.items) c.loop-line.number c.in-Some.line at in
    let size_of = ap length c.as_slice-extensions.ensures.value in
    let fits = c.as_slice-extensions.ensures.fits in
    let few = few_parts c.args.base.now c.args.extensions.now.items (omega (arith, size_of, fits)) in
    let count = i.count in
    let bound = i.bound in
    let size = ap length c.write-text.ensures in
    record {
      so_far = wrote_more (part_lines c.args.base.now c.args.extensions.now.items) c.loop-line.number c.in-Some.line c.as_slice.result.now _ _ _ same at i.so_far c.in_default-put_all.ensures.ok;
      flag = c.in_default-put_all.ensures.same ∙ i.flag;
      count = omega (arith, len, count, size, c.len.ensures.value);
      bound = omega (arith, bound, c.len.ensures.fits);
      few = omega (arith, there, few);
    }

pub returns : goal.returns
returns g c =
    let i = c.loop-line.invariant in
    let past = ap (λ xs. slice_get (part_lines c.args.base.now xs) c.loop-line.number) (sym c.as_slice-extensions.ensures.value) ∙ c.in_default.ensures in
    (wrote_all (part_lines c.args.base.now c.args.extensions.now.items) c.loop-line.number _ _ past i.so_far, i.flag)
