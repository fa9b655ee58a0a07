use Rattle.std.proofs.Common.{◌≡◌, take}
use Rattle.line_rounds.specs.Machine.{AreSentWell}
use Rattle.line_wire.proofs.edge_wire.copied_seats.Given as goal

abbrev pub invariant-loop-seat : goal.invariant-loop-seat
invariant-loop-seat l = record {
  same : l.kept.items ≡ take l.seat-index l.seats;
  sends : AreSentWell l.kept.items;
}
