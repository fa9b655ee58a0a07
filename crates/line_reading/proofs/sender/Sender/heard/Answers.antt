use Rattle.std.proofs.Common.{◌+◌, ◌∙◌, ap, sym, arith}
use Rattle.line_frames.specs.Bits.{frame_bits}
use Rattle.line_reading.specs.Sending.{state_before}
use Rattle.line_reading.proofs.Sent.{hears_state, stopped_by}
use Rattle.line_reading.proofs.sender.Sender.heard.Goals as goal

pub returns-clause-hears : goal.returns-clause-hears
returns-clause-hears c = λ low before s q e.
    let old = c.args.self.now in
    let new = c.go_by.new.self in
    let t = c.args.t in
    let k = c.go_by.ensures.keeps in
    record {
      after = omega (arith, s.after, q.from, k.1);
      state = hears_state low old.begin before t (frame_bits old.frame) old.state new.state c.args.reported (omega (arith, s.after)) q.from q.runs q.silent e s.state c.go_by.ensures.state
          ∙ ap (λ b. state_before low b (frame_bits old.frame) (t + 1)) (sym k.1) ∙ ap (λ f. state_before low new.begin (frame_bits f) (t + 1)) (sym k.0);
      past = stopped_by old.state new.state old.last new.last before t c.go_by.ensures.stops s.past q.from;
    }
