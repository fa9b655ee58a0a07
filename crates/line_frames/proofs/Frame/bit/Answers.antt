use Rattle.std.proofs.Common.{arith, ◌∙◌, sym, ap, Some, length, ◌==◌, ◌+◌, ◌/◌, ◌-◌}
use Rattle.std.proofs.lemmas.Nat.Bits.{shr_and_one}
use Rattle.line_frames.proofs.Slots.{block_within, bit_slot, eom_slot, ack_slot}
use Rattle.line_frames.proofs.Frame.bit.Goals as goal

pub bounds-deref-block : goal.bounds-deref-block
bounds-deref-block c =
    rw (c.deref.ensures.0, c.self.view_is) (block_within c.args.self.now c.args.k c.requires.0 c.requires.1)

pub returns-then-place-lt8 : goal.returns-then-place-lt8
returns-then-place-lt8 c =
    rw (c.deref.ensures.0, c.self.view_is, shr_and_one) (bit_slot c.args.self.now c.args.k c.requires.0 c.requires.1 c.if-place-lt8.true)

pub returns-then-place-eq8 : goal.returns-then-place-eq8
returns-then-place-eq8 c =
    eom_slot c.args.self.now c.args.k c.requires.0 c.requires.1 c.if-place-eq8.true
    ∙ ap (λ n. Some ((c.args.k - 1) / 10 + 1 == n)) (sym (c.len.ensures.value ∙ ap length c.self.view_is))

pub returns-else-place-eq8 : goal.returns-else-place-eq8
returns-else-place-eq8 c = ack_slot c.args.self.now c.args.k c.requires.0 c.requires.1 (omega arith)
