use Rattle.std.proofs.Common.{refl}
use Rattle.message_lay.proofs.bits.push_block.Goals as goal

pub returns : goal.returns
returns c =
    rw (
      c.add.ensures,
      c.bit_of.ensures,
      c.bit_of-2.ensures,
      c.bit_of-3.ensures,
      c.bit_of-4.ensures,
      c.bit_of-5.ensures,
      c.bit_of-6.ensures,
      c.bit_of-7.ensures,
      c.bit_of-8.ensures,
      c.nominal_bit.ensures,
      c.nominal_bit-2.ensures,
    ) refl
