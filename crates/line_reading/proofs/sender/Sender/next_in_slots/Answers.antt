use Rattle.std.proofs.Common.{◌≡◌, ◌+◌, ◌-◌, ◌/◌, ◌%◌, false, slice_index_or, Some, ap, sym, ◌∙◌, subst, arith}
use Rattle.line_wave.specs.Line.{line_of}
use Rattle.line_wave.specs.Sender.{low_of, slot_stretches}
use Rattle.line_frames.specs.Bits.{frame_bits}
use Rattle.line_reading.specs.Sending.{IsNextChange}
use Rattle.line_reading.proofs.Laid.{change_over, change_low, change_high, change_last}
use Rattle.line_reading.proofs.sender.Sender.next_in_slots.Goals as goal

pub returns-then-slot-slots : goal.returns-then-slot-slots
returns-then-slot-slots c = change_over (frame_bits c.args.self.now.frame) c.args.fall c.args.t (omega (arith, c.if-slot-slots.true, c.slots.ensures, c.requires.from))

pub returns-then-within-low : goal.returns-then-within-low
returns-then-within-low c =
    let bits = frame_bits c.args.self.now.frame in
    let q = (c.args.t - c.args.fall) / 2400 in
    let a = (c.args.t - c.args.fall) % 2400 in
    let low : low_of (slice_index_or bits ((c.args.t - c.args.fall) / 2400) false) ≡ c.low_in-low.result =
    sym (c.low_in-low.ensures ∙ ap (λ n. low_of (slice_index_or bits n false)) (let x : (c.args.t - c.args.fall) / 2400 + 1 - 1 ≡ (c.args.t - c.args.fall) / 2400 = omega arith in x)) in
    subst (λ w. IsNextChange (line_of (slot_stretches c.args.fall bits)) c.args.t (Some (c.args.t - (c.args.t - c.args.fall) % 2400 + w))) low
    (change_low bits c.args.fall q a c.args.t (omega (arith, c.requires.from)) (omega (arith, c.if-slot-slots.false, c.slots.ensures)) (omega (arith, c.if-within-low.true, low)))

pub returns-then-slot-slots-2 : goal.returns-then-slot-slots-2
returns-then-slot-slots-2 c =
    let bits = frame_bits c.args.self.now.frame in
    let low : low_of (slice_index_or bits ((c.args.t - c.args.fall) / 2400) false) ≡ c.low_in-low.result =
    sym (c.low_in-low.ensures ∙ ap (λ n. low_of (slice_index_or bits n false)) (let x : (c.args.t - c.args.fall) / 2400 + 1 - 1 ≡ (c.args.t - c.args.fall) / 2400 = omega arith in x)) in
    change_high bits c.args.fall ((c.args.t - c.args.fall) / 2400) ((c.args.t - c.args.fall) % 2400) c.args.t (omega (arith, c.requires.from)) (omega arith)
    (omega (arith, c.if-slot-slots-2.true, c.slots-else-within-low.ensures)) (omega (arith, c.if-within-low.false, low))

pub returns-else-slot-slots-2 : goal.returns-else-slot-slots-2
returns-else-slot-slots-2 c =
    let bits = frame_bits c.args.self.now.frame in
    let low : low_of (slice_index_or bits ((c.args.t - c.args.fall) / 2400) false) ≡ c.low_in-low.result =
    sym (c.low_in-low.ensures ∙ ap (λ n. low_of (slice_index_or bits n false)) (let x : (c.args.t - c.args.fall) / 2400 + 1 - 1 ≡ (c.args.t - c.args.fall) / 2400 = omega arith in x)) in
    change_last bits c.args.fall ((c.args.t - c.args.fall) / 2400) ((c.args.t - c.args.fall) % 2400) c.args.t (omega (arith, c.requires.from)) (omega arith)
    (omega (arith, c.if-slot-slots.false, c.slots.ensures)) (omega (arith, c.if-slot-slots-2.false, c.slots-else-within-low.ensures)) (omega (arith, c.if-within-low.false, low))
