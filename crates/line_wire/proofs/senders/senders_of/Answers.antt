use Rattle.std.proofs.Common.{◌+◌, List, Option, take, subst, sym, arith}
use Rattle.line_reading.specs.declared.sender.Sender.{Sender}
use Rattle.line_wire.specs.Listening.{AreBegun}
use Rattle.line_wire.proofs.Begins.{begun_next}
use Rattle.line_wire.proofs.senders.senders_of.Goals as goal

pub loop-seat-preserved : goal.loop-seat-preserved
loop-seat-preserved c =
    let l = c.loop-seat in
    record {
      count = omega (arith, c.push.ensures.len, l.invariant.count);
      begun = subst (λ (ss : List (Option Sender)). AreBegun (take (l.seat-index + 1) c.args.seats.now) c.args.begin ss) (sym c.push.ensures.items)
          (begun_next c.args.seats.now c.args.begin l.senders.items l.seat-index c.seat-item.result c.sender_of.result c.loop-seat-test.true c.seat-item.is l.invariant.begun c.sender_of.ensures);
    }
