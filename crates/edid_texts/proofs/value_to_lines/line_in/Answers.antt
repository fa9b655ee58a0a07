use Rattle.std.proofs.Common.{◌-◌, ◌+◌, ◌<◌, ◌≤◌, ℕ, length, drop, slice_get, flat_map, ap, sym, arith, ◌∙◌}
use Rattle.edid_texts.specs.Lines.{ext_lines}
use Rattle.edid_texts.proofs.Gets.{first_left, rest_left}
use Rattle.edid_texts.proofs.value_to_lines.line_in.Goals as goal

pub returns-then-number-count : goal.returns-then-number-count
returns-then-number-count c =
    let x = c.ext-item.result in
    let count = c.line_count-count.ensures in
    let test = c.if-number-count.true in
    let less : c.loop-ext.number < length (ext_lines x) = omega (arith, count, test) in
    c.loop-ext.invariant ∙ first_left c.args.extensions.now c.loop-ext.ext-index c.loop-ext.number x c.loop-ext-test.true c.ext-item.is less ∙ c.ext_line.ensures

pub loop-ext-preserved : goal.loop-ext-preserved
loop-ext-preserved c =
    let x = c.ext-item.result in
    let xs = c.args.extensions.now in
    let i = c.loop-ext.ext-index in
    let number = c.loop-ext.number in
    let count = c.line_count-count.ensures in
    let test = c.if-number-count.false in
    let most : length (ext_lines x) ≤ number = omega (arith, count, test) in
    c.loop-ext.invariant ∙ rest_left xs i number x c.loop-ext-test.true c.ext-item.is most
    ∙ ap (λ (k : ℕ). slice_get (flat_map ext_lines (drop (i + 1) xs)) (number - k)) (sym count)
