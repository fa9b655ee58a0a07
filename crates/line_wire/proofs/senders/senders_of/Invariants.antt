use Rattle.std.proofs.Common.{◌≡◌, length, take}
use Rattle.line_wire.specs.Listening.{AreBegun}
use Rattle.line_wire.proofs.senders.senders_of.Given as goal

abbrev pub invariant-loop-seat : goal.invariant-loop-seat
invariant-loop-seat l = record {
  count : length l.senders.items ≡ l.seat-index;
  begun : AreBegun (take l.seat-index l.seats) l.begin l.senders.items;
}
