use Rattle.std.proofs.Common.{ℕ, subst, sym}
use Rattle.capture_join.specs.Joined.{FindsEnd}
use Rattle.capture_join.proofs.Search.{finds_end}
use Rattle.capture_join.proofs.idle.IdleSearch.end.Goals as goal

pub returns : goal.returns
returns c = subst (λ (t : ℕ). FindsEnd c.args.self c.args.end t) (sym c.unwrap_or.ensures) (finds_end c.args.self c.look.new.self c.args.end c.look.ensures.found)
