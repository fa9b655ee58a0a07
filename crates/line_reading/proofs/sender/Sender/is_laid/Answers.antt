use Rattle.std.proofs.Common.{sym, ◌∙◌, arith}
use Rattle.line_frames.specs.Bits.{frame_bits}
use Rattle.line_reading.proofs.Laid.{before_start, start_at, laid_in_slots}
use Rattle.line_reading.proofs.sender.Sender.is_laid.Goals as goal

pub returns-then-t-self : goal.returns-then-t-self
returns-then-t-self c = sym (before_start (frame_bits c.args.self.now.frame) c.args.self.now.begin c.args.t (omega (arith, c.if-t-self.true)))

pub returns-then-t-self-2 : goal.returns-then-t-self-2
returns-then-t-self-2 c = sym (start_at (frame_bits c.args.self.now.frame) c.args.self.now.begin c.args.t (omega (arith, c.if-t-self.false)) (omega (arith, c.if-t-self-2.true)))

pub returns-else-t-self-2 : goal.returns-else-t-self-2
returns-else-t-self-2 c = c.is_low_in_slots.ensures ∙ laid_in_slots (frame_bits c.args.self.now.frame) c.args.self.now.begin c.args.t (omega (arith, c.if-t-self-2.false))
