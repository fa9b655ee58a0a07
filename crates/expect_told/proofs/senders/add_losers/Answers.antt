use Rattle.std.proofs.Common.{◌≡◌, ◌∷◌, rules}
use Rattle.room_trace.specs.TraceText.{loser_text}
use Rattle.expect_told.proofs.Listed.{listed}
use Rattle.expect_told.proofs.senders.add_losers.Goals as goal

pub returns : goal.returns
returns g c =
    let split : c.args.losers.now ≡ c.in-Some.first.now ∷ c.in-Some.others.now = search rules in
    listed (loser_text c.args.devices.now) c.in-Some.first.now c.in-Some.others.now c.args.losers.now _ _ _ split c.add_first_loser.ensures c.add_later_losers.ensures
