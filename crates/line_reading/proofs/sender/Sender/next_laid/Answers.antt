use Rattle.std.proofs.Common.{arith}
use Rattle.line_frames.specs.Bits.{frame_bits}
use Rattle.line_reading.proofs.Laid.{change_before, change_start, change_rise, change_slots, has_slots}
use Rattle.line_reading.proofs.sender.Sender.next_laid.Goals as goal

pub returns-then-t-self : goal.returns-then-t-self
returns-then-t-self c = change_before (frame_bits c.args.self.now.frame) c.args.self.now.begin c.args.t (omega (arith, c.if-t-self.true))

pub returns-then-t-self-2 : goal.returns-then-t-self-2
returns-then-t-self-2 c = change_start (frame_bits c.args.self.now.frame) c.args.self.now.begin c.args.t (omega (arith, c.if-t-self.false)) (omega (arith, c.if-t-self-2.true))

pub returns-then-t-self-3 : goal.returns-then-t-self-3
returns-then-t-self-3 c =
    change_rise (frame_bits c.args.self.now.frame) c.args.self.now.begin c.args.t (omega (arith, c.if-t-self-2.false)) (omega (arith, c.if-t-self-3.true)) (has_slots c.args.self.now.frame c.args.self.now.filled)

pub returns-else-t-self-3 : goal.returns-else-t-self-3
returns-else-t-self-3 c =
    change_slots (frame_bits c.args.self.now.frame) c.args.self.now.begin c.args.t c.next_in_slots.result (omega (arith, c.if-t-self-3.false)) c.next_in_slots.ensures
