use Rattle.std.proofs.Common.{◌≡◌, ◌∷◌, rules}
use Rattle.expect_told.specs.Senders.{held_by}
use Rattle.expect_told.proofs.Listed.{one_by_one}
use Rattle.expect_told.proofs.senders.+add_all_held.Goals as goal

pub returns : goal.returns
returns g t c =
    let split : c.args.devices.now ≡ c.in-Some.device.now ∷ c.in-Some.others.now = search rules in
    one_by_one held_by c.in-Some.device.now c.in-Some.others.now c.args.devices.now _ _ _ split c.add_held_by.ensures c.add_all_held.ensures
