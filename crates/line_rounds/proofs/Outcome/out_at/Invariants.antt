use Rattle.std.proofs.Common.{◌≡◌, drop}
use Rattle.line_rounds.specs.Round.{out_in}
use Rattle.line_rounds.proofs.Outcome.out_at.Given as goal

abbrev pub invariant-loop-loser : goal.invariant-loop-loser
invariant-loop-loser l = out_in (drop l.loser-index l.self.losers.items) l.seat ≡ out_in l.self.losers.items l.seat
