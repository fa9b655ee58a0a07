use Rattle.std.proofs.Common.{◌≡◌, ◌+◌, ◌-◌, ◌/◌, ◌%◌, false, slice_index_or, ap, sym, ◌∙◌, subst, arith}
use Rattle.line_wave.specs.Line.{line_of}
use Rattle.line_wave.specs.Sender.{low_of, slot_stretches}
use Rattle.line_frames.specs.Bits.{frame_bits}
use Rattle.line_reading.specs.Sending.{RisesAt}
use Rattle.line_reading.proofs.Laid.{rises_in_slot, rises_over}
use Rattle.line_reading.proofs.sender.Sender.slot_at.Goals as goal

pub returns-then-slot-slots-clause-rises : goal.returns-then-slot-slots-clause-rises
returns-then-slot-slots-clause-rises c =
    let t = c.args.t in
    let a = (c.args.t - c.args.fall) % 2400 in
    rises_over (frame_bits c.args.self.now.frame) c.args.fall t (t - a) (t - a + 2400) (omega (arith, c.if-slot-slots.true, c.slots.ensures, c.requires.from)) (omega arith)

pub returns-clause-rises : goal.returns-clause-rises
returns-clause-rises c =
    let bits = frame_bits c.args.self.now.frame in
    let t = c.args.t in
    let q = (c.args.t - c.args.fall) / 2400 in
    let a = (c.args.t - c.args.fall) % 2400 in
    let low : low_of (slice_index_or bits ((c.args.t - c.args.fall) / 2400) false) ≡ c.low_in.result =
    sym (c.low_in.ensures ∙ ap (λ n. low_of (slice_index_or bits n false)) (let x : (c.args.t - c.args.fall) / 2400 + 1 - 1 ≡ (c.args.t - c.args.fall) / 2400 = omega arith in x)) in
    subst (λ w. RisesAt (line_of (slot_stretches c.args.fall bits)) t (t - a + w) (t - a + 2400)) low
    (rises_in_slot bits c.args.fall q a t (omega (arith, c.requires.from)) (omega arith) (omega (arith, c.if-slot-slots.false, c.slots.ensures)))
