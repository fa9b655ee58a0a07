use Rattle.std.proofs.Common.{arith}
use Rattle.line_frames.specs.Bits.{frame_bits}
use Rattle.line_reading.proofs.Laid.{rises_before, rises_start, rises_slots}
use Rattle.line_reading.proofs.sender.Sender.laid_at.Goals as goal

pub returns-then-t-self-clause-rises : goal.returns-then-t-self-clause-rises
returns-then-t-self-clause-rises c = rises_before (frame_bits c.args.self.now.frame) c.args.self.now.begin c.args.t

pub returns-then-t-self-2-clause-rises : goal.returns-then-t-self-2-clause-rises
returns-then-t-self-2-clause-rises c = rises_start (frame_bits c.args.self.now.frame) c.args.self.now.begin c.args.t (omega (arith, c.if-t-self.false))

pub returns-else-t-self-2-clause-rises : goal.returns-else-t-self-2-clause-rises
returns-else-t-self-2-clause-rises c =
    rises_slots (frame_bits c.args.self.now.frame) c.args.self.now.begin c.args.t c.slot_at.result.rise c.slot_at.result.until (omega (arith, c.if-t-self-2.false)) c.slot_at.ensures.rises
