use Rattle.std.proofs.Common.{◌≡◌, ◌∷◌, rules}
use Rattle.room_trace.specs.TraceText.{name_at}
use Rattle.expect_told.proofs.Listed.{one_by_one}
use Rattle.expect_told.proofs.senders.+add_later_names.Goals as goal

pub returns : goal.returns
returns g t c =
    let split : c.args.numbers.now ≡ c.in-Some.number.now ∷ c.in-Some.others.now = search rules in
    one_by_one (λ number. 44 ∷ name_at c.args.devices.now number) c.in-Some.number.now c.in-Some.others.now c.args.numbers.now _ _ _ split c.add_later_name.ensures c.add_later_names.ensures
