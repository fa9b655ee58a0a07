use Rattle.std.proofs.Common.{◌≡◌, ◌++◌, ◌≤◌, drop, length}
use Rattle.line_wire.specs.States.{losers_of, survivors_of}
use Rattle.line_wire.proofs.edge_wire.parted.Given as goal

-- those so far and those among what is left are all
abbrev pub invariant-loop-seat : goal.invariant-loop-seat
invariant-loop-seat l = record {
  few_survivors : length l.survivors.items ≤ l.seat;
  few_losers : length l.losers.items ≤ l.seat;
  survivors : l.survivors.items ++ survivors_of l.seat (drop l.seat l.senders) ≡ survivors_of 0 l.senders;
  losers : l.losers.items ++ losers_of l.seat (drop l.seat l.senders) ≡ losers_of 0 l.senders;
}
