use Rattle.std.proofs.Common.{◌≡◌, ◌+◌, ◌-◌, [], ◌∷◌, ◌++◌, slice_get, Some, ap, arith, subst, sym, ◌∙◌}
use Rattle.line_frames.specs.Bits.{frame_bits}
use Rattle.room_drives.proofs.Bits.{bit_next}
use Rattle.room_drives.proofs.seat.push_bits.Goals as goal

pub filling-preserved : goal.filling-preserved
filling-preserved c =
    let at : c.filling.slot + 1 - 1 ≡ c.filling.slot = omega arith in
    let bit = subst (λ k. slice_get (frame_bits c.args.frame.now) k ≡ Some c.bit.result) at c.bit.ensures in
    record {
      bits = c.push.ensures.items ∙ ap (λ l. l ++ c.bit.result ∷ []) c.filling.invariant.bits ∙ sym (bit_next (frame_bits c.args.frame.now) c.filling.slot c.bit.result bit);
      few = omega (arith, c.filling-test.true, c.slots.ensures);
    }
