use Rattle.std.proofs.Common.{◌++◌, length, subst, sym}
use Rattle.text_core.specs.Adds.{Adds}
use Rattle.text_core.proofs.Adding.{then}
use Rattle.capture_wires.specs.Wires.{variables}
use Rattle.room_driven.specs.Driven.{names_of}
use Rattle.room_driven.specs.Named.{closing_of}
use Rattle.room_driven.proofs.Counts.{count_names}
use Rattle.room_driven.proofs.head.add_wires.Goals as goal

pub returns : goal.returns
returns g c =
    subst (λ n. Adds c.args.out.now c.add_closing_of.new.out (variables 1 (names_of c.args.devices.now) ++ closing_of c.args.wires n)) (sym (count_names c.args.devices.now))
    (then _ _ _ (variables 1 (names_of c.args.devices.now)) (closing_of c.args.wires (length c.args.devices.now)) c.add_devices.ensures c.add_closing_of.ensures)
