use Rattle.std.proofs.Common.{rules, ◌≡◌, ◌+◌, ◌∷◌, subst, sym}
use Rattle.text_core.specs.Adds.{Adds}
use Rattle.text_core.proofs.Adding.{then}
use Rattle.capture_wires.specs.Wires.{variable, variables}
use Rattle.room_driven.specs.Driven.{names_of}
use Rattle.room_driven.proofs.head.+add_devices.Goals as goal

pub returns : goal.returns
returns g t c =
    let split : c.args.devices.now ≡ c.in-Some.device.now ∷ c.in-Some.others.now = search rules in
    let first : Adds c.args.out.now c.add_variable.new.out (variable c.args.number c.in-Some.device.now.name) = rw (← c.name.ensures.name) c.add_variable.ensures in
    subst (λ ds. Adds c.args.out.now c.add_devices.new.out (variables c.args.number (names_of ds))) (sym split)
    (then _ _ _ (variable c.args.number c.in-Some.device.now.name) (variables (c.args.number + 1) (names_of c.in-Some.others.now)) first c.add_devices.ensures)
