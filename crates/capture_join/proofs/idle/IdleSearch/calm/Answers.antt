use Rattle.std.proofs.Common.{◌-◌, arith}
use Rattle.capture_join.specs.Joined.{idle_by}
use Rattle.capture_join.proofs.Search.{finds_calm, finds_none, look_stays, same_stays}
use Rattle.capture_join.proofs.idle.IdleSearch.calm.Goals as goal

pub returns-then-known-gt0-clause-finds : goal.returns-then-known-gt0-clause-finds
returns-then-known-gt0-clause-finds c = finds_calm c.args.self.now c.look.new.self c.args.known (omega (arith, c.if-known-gt0.true)) c.look.ensures.found c.look.ensures.since

pub returns-then-known-gt0-clause-stays : goal.returns-then-known-gt0-clause-stays
returns-then-known-gt0-clause-stays c = look_stays c.args.self.now.found c.look.new.self.found (idle_by c.args.self.now.high_since (c.args.known - 1)) c.look.ensures.found

pub returns-else-known-gt0-clause-finds : goal.returns-else-known-gt0-clause-finds
returns-else-known-gt0-clause-finds c = finds_none c.args.self.now c.args.known (omega (arith, c.if-known-gt0.false))

pub returns-else-known-gt0-clause-stays : goal.returns-else-known-gt0-clause-stays
returns-else-known-gt0-clause-stays c = same_stays c.args.self.now.found
