use Rattle.std.proofs.Common.{◌≡◌, ◌∷◌, rules}
use Rattle.expect_told.specs.Senders.{holding}
use Rattle.expect_told.proofs.Listed.{one_by_one}
use Rattle.expect_told.proofs.senders.+add_holdings.Goals as goal

pub returns : goal.returns
returns g t c =
    let split : c.args.held.now ≡ c.in-Some.unit.now ∷ c.in-Some.others.now = search rules in
    one_by_one (holding c.args.name.now) c.in-Some.unit.now c.in-Some.others.now c.args.held.now _ _ _ split c.add_holding.ensures c.add_holdings.ensures
