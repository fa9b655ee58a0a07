use Rattle.std.proofs.Common.{rules, ◌≡◌, Bool, false, slice_index_or}
use Rattle.record_core.specs.Cells.{bit_text}
use Rattle.record_core.proofs.Plain.{more_as, none_as}
use Rattle.record_core.proofs.line.add_digits.Goals as goal

pub loop-bit-init : goal.loop-bit-init
loop-bit-init g c = none_as c.args.quoted c.args.out.now

pub loop-bit-preserved : goal.loop-bit-preserved
loop-bit-preserved g c =
    let item : Bool = slice_index_or c.args.bits.now c.loop-bit.bit-index false in
    let same : slice_index_or c.args.bits.now c.loop-bit.bit-index item ≡ item = search rules in
    more_as c.args.quoted bit_text c.args.bits.now c.loop-bit.bit-index item _ _ _ c.loop-bit-test.true same c.loop-bit.invariant c.add_bit.ensures
