use Rattle.std.proofs.Common.{arith}
use Rattle.line_frames.specs.Bits.{frame_bits}
use Rattle.line_frames.proofs.Order.{same_slot, first_difference, no_difference}
use Rattle.line_frames.proofs.Frame.precedes.Goals as goal

pub returns-then-sent-other_sent : goal.returns-then-sent-other_sent
returns-then-sent-other_sent c =
    first_difference (frame_bits c.args.self.now) (frame_bits c.args.other.now) c.loop-place.place
    c.bit-sent.result c.bit-other_sent.result c.bit-sent.ensures c.bit-other_sent.ensures c.if-sent-other_sent.true c.loop-place.invariant

pub loop-place-preserved : goal.loop-place-preserved
loop-place-preserved c =
    same_slot (frame_bits c.args.self.now) (frame_bits c.args.other.now) c.loop-place.place
    c.bit-sent.result c.bit-other_sent.result c.bit-sent.ensures c.bit-other_sent.ensures c.if-sent-other_sent.false c.loop-place.invariant

pub returns : goal.returns
returns c =
    no_difference (frame_bits c.args.self.now) (frame_bits c.args.other.now) c.loop-place.place
    (grind arith) c.loop-place.invariant
