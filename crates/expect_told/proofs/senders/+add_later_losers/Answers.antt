use Rattle.std.proofs.Common.{◌≡◌, ◌∷◌, rules}
use Rattle.room_trace.specs.TraceText.{loser_text}
use Rattle.expect_told.proofs.Listed.{one_by_one}
use Rattle.expect_told.proofs.senders.+add_later_losers.Goals as goal

pub returns : goal.returns
returns g t c =
    let split : c.args.losers.now ≡ c.in-Some.loser.now ∷ c.in-Some.others.now = search rules in
    one_by_one (λ loser. 44 ∷ loser_text c.args.devices.now loser) c.in-Some.loser.now c.in-Some.others.now c.args.losers.now _ _ _ split c.add_later_loser.ensures c.add_later_losers.ensures
