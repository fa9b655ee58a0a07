use Rattle.std.proofs.Common.{rules, ◌≡◌, Bool, false, slice_index_or}
use Rattle.text_core.proofs.Adding.{more, nothing}
use Rattle.record_core.specs.Cells.{bit_text}
use Rattle.record_core.proofs.object.add_digits.Goals as goal

pub loop-bit-init : goal.loop-bit-init
loop-bit-init g c = nothing c.args.out.now

pub loop-bit-preserved : goal.loop-bit-preserved
loop-bit-preserved g c =
    let item : Bool = slice_index_or c.args.bits.now c.loop-bit.bit-index false in
    let same : slice_index_or c.args.bits.now c.loop-bit.bit-index item ≡ item = search rules in
    more bit_text c.args.bits.now c.loop-bit.bit-index item _ _ _ c.loop-bit-test.true same c.loop-bit.invariant c.add_bit.ensures
