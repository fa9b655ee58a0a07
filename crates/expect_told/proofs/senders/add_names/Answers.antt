use Rattle.std.proofs.Common.{◌≡◌, ◌∷◌, rules}
use Rattle.room_trace.specs.TraceText.{name_at}
use Rattle.expect_told.proofs.Listed.{listed}
use Rattle.expect_told.proofs.senders.add_names.Goals as goal

pub returns : goal.returns
returns g c =
    let split : c.args.numbers.now ≡ c.in-Some.first.now ∷ c.in-Some.others.now = search rules in
    listed (name_at c.args.devices.now) c.in-Some.first.now c.in-Some.others.now c.args.numbers.now _ _ _ split c.add_first_name.ensures c.add_later_names.ensures
