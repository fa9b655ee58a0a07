use Rattle.std.proofs.Common.{◌≡◌, ◌+◌, ◌&&◌, nat_le, min, subst, arith}
use Rattle.line_wave.specs.Line.{line_of}
use Rattle.line_wave.specs.Sender.{sender_stretches}
use Rattle.line_frames.specs.Bits.{frame_bits}
use Rattle.line_reading.specs.Sending.{RisesAt}
use Rattle.line_reading.proofs.Laid.{rises_past, rises_last}
use Rattle.line_reading.proofs.sender.Sender.stopped_at.Goals as goal

pub returns-then-t-self-clause-rises : goal.returns-then-t-self-clause-rises
returns-then-t-self-clause-rises c =
    rises_past (line_of (sender_stretches c.args.self.now.begin (frame_bits c.args.self.now.frame))) c.args.self.now.last c.args.t (c.args.t + 4500) (omega (arith, c.if-t-self.true))

pub returns-clause-rises : goal.returns-clause-rises
returns-clause-rises c =
    let pull = line_of (sender_stretches c.args.self.now.begin (frame_bits c.args.self.now.frame)) in
    let l = c.laid_at-laid in
    subst (λ m. RisesAt (λ u. line_of (sender_stretches c.args.self.now.begin (frame_bits c.args.self.now.frame)) u && nat_le u c.args.self.now.last) c.args.t m l.result.until)
    (let x : min c.laid_at-laid.result.rise (c.args.self.now.last + 1) ≡ c.min.result = omega (arith, c.min.ensures) in x)
    (rises_last pull c.args.self.now.last c.args.t l.result.rise l.result.until l.ensures.rises)
