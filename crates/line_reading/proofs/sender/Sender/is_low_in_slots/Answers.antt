use Rattle.std.proofs.Common.{◌≡◌, ◌+◌, ◌-◌, ◌/◌, ◌%◌, nat_lt, false, slice_index_or, ap, sym, ◌∙◌, arith}
use Rattle.line_frames.specs.Bits.{frame_bits}
use Rattle.line_wave.specs.Sender.{low_of}
use Rattle.line_reading.proofs.Laid.{slot_at, slots_over}
use Rattle.line_reading.proofs.sender.Sender.is_low_in_slots.Goals as goal

pub returns-then-slot-slots : goal.returns-then-slot-slots
returns-then-slot-slots c = sym (slots_over (frame_bits c.args.self.now.frame) 0 c.args.since (omega (arith, c.if-slot-slots.true, c.slots.ensures)))

pub returns : goal.returns
returns c =
    let bits = frame_bits c.args.self.now.frame in
    let since = c.args.since in
    ap (nat_lt (since % 2400)) (c.low_in.ensures ∙ ap (λ n. low_of (slice_index_or bits n false)) (let x : since / 2400 + 1 - 1 ≡ since / 2400 = omega arith in x))
    ∙ sym (slot_at bits 0 (since / 2400) (since % 2400) since (omega arith) (omega arith) (omega (arith, c.if-slot-slots.false, c.slots.ensures)))
