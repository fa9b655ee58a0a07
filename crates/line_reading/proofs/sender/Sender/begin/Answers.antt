use Rattle.std.proofs.Common.{arith}
use Rattle.line_frames.specs.Bits.{frame_bits}
use Rattle.line_reading.proofs.Sent.{begins_so}
use Rattle.line_reading.proofs.sender.Sender.begin.Goals as goal

pub returns-clause-stands : goal.returns-clause-stands
returns-clause-stands c = λ low. record { after = omega arith; state = begins_so low c.args.t (frame_bits c.args.frame); past = tt }
