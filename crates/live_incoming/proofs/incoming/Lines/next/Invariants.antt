use Rattle.std.proofs.Common.{◌-◌, length}
use Rattle.std.specs.Io.KnownBytes.{Consumes}
use Rattle.live_incoming.specs.Incoming.{IsWhole, to_come}
use Rattle.live_incoming.proofs.incoming.Lines.next.Given as goal

-- what has come is the line so far
abbrev pub invariant-pieces : goal.invariant-pieces
invariant-pieces g l = record {
  whole : IsWhole l.line.items;
  come : Consumes (to_come l.fn.self (g.R.Read.remaining l.fn.input)) (to_come l.self (g.R.Read.remaining l.input)) l.line.items;
}

abbrev pub decreases-pieces : goal.decreases-pieces
decreases-pieces g l = 4097 - length l.line.items
