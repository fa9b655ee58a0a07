use Rattle.std.proofs.Common.{◌≡◌, ◌<◌, ◌≤◌, ◌+◌, length, get_or, ap, arith, ◌∙◌}
use Rattle.edid_base.specs.Base.{base_bytes}
use Rattle.edid_core.proofs.OneEdid.{ext_len}
use Rattle.edid_core.proofs.Reading.{room, written_more}
use Rattle.edid_core.proofs.bytes.edid_to_bytes.Goals as goal

pub append-requires-in-loop-ext : goal.append-requires-in-loop-ext
append-requires-in-loop-ext c =
    let items = ap length c.as_slice-ext-items.ensures.value in
    let test = c.loop-ext-test.true in
    let there : c.loop-ext.ext-index < length c.args.edid.now.extensions.items = omega (arith, items, test) in
    let left = room c.args.edid.now c.loop-ext.ext-index c.loop-ext.bytes.items c.loop-ext.invariant there in
    let same = ap length c.write_ext.ensures in
    let long = ext_len c.ext-item.result in
    let all : length c.loop-ext.bytes.items + length c.write_ext.result ≤ 512 = omega (arith, left, same, long) in
    (omega arith, all)

pub loop-ext-preserved : goal.loop-ext-preserved
loop-ext-preserved c =
    let xs = c.args.edid.now.extensions.items in
    let i = c.loop-ext.ext-index in
    let x = c.ext-item.result in
    let value = c.as_slice-ext-items.ensures.value in
    let items = ap length value in
    let test = c.loop-ext-test.true in
    let there : i < length xs = omega (arith, items, test) in
    let item : x ≡ get_or xs i x = c.ext-item.is ∙ ap (λ ys. get_or ys i x) value in
    written_more (base_bytes c.args.edid.now.base) xs i x c.loop-ext.bytes.items c.append-in-loop-ext.new.block.items c.write_ext.result c.append-in-loop-ext.ensures.items
    c.loop-ext.invariant c.write_ext.ensures there item
