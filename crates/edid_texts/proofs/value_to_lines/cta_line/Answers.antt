use Rattle.std.proofs.Common.{◌-◌, length, get_or, sym, ◌∙◌, ap, arith, Some}
use Rattle.edid_texts.specs.Lines.{tail_line}
use Rattle.edid_texts.proofs.Gets.{block_at, timing_at, tail_at, none_at}
use Rattle.edid_texts.proofs.value_to_lines.cta_line.Goals as goal

pub returns-then-number-blocks : goal.returns-then-number-blocks
returns-then-number-blocks c =
    let items = c.as_slice-blocks.ensures.value in
    let len = ap length items in
    let b = c.index-blocks-number.result in
    let test = c.if-number-blocks.true in
    block_at c.args.cta.now c.args.number (c.args.number - 1) b (omega arith) (omega (arith, len, test)) (c.index-blocks-number.is ∙ ap (λ xs. get_or xs (c.args.number - 1) b) items)
    ∙ ap (λ l. Some l) (sym c.block_line.ensures)

pub returns-then-number-timings : goal.returns-then-number-timings
returns-then-number-timings c =
    let blocks = ap length c.as_slice-blocks.ensures.value in
    let items = c.as_slice-timings.ensures.value in
    let len = ap length items in
    let t = c.index-timings-number.result in
    let first = c.if-number-blocks.false in
    let test = c.if-number-timings.true in
    timing_at c.args.cta.now c.args.number (c.args.number - 1 - length c.as_slice-blocks.result.now) t (omega (arith, blocks, first)) (omega (arith, len, test))
    (c.index-timings-number.is ∙ ap (λ xs. get_or xs (c.args.number - 1 - length c.as_slice-blocks.result.now) t) items)
    ∙ ap (λ l. Some l) (sym c.timing_line.ensures)

pub returns-then-number-timings-2 : goal.returns-then-number-timings-2
returns-then-number-timings-2 c =
    let blocks = ap length c.as_slice-blocks.ensures.value in
    let len = ap length c.as_slice-timings.ensures.value in
    let first = c.if-number-blocks.false in
    let test = c.if-number-timings-2.true in
    tail_at c.args.cta.now c.args.number (c.args.number - 1 - length c.as_slice-blocks.result.now) (omega (arith, blocks, first)) (omega (arith, len, test))
    ∙ ap (λ l. Some l) (sym (c.tail_line.ensures ∙ ap tail_line c.as_slice.ensures.value))

pub returns : goal.returns
returns c =
    let blocks = ap length c.as_slice-blocks.ensures.value in
    let len = ap length c.as_slice-timings.ensures.value in
    let first = c.if-number-blocks.false in
    let test = c.if-number-timings.false in
    let other = c.if-number-timings-2.false in
    none_at c.args.cta.now c.args.number (c.args.number - 1 - length c.as_slice-blocks.result.now) (omega (arith, blocks, first)) (omega (arith, len, test, other))
