use Rattle.std.proofs.Common.{append-nil}
use Rattle.std.specs.Fmt.{decimal}
use Rattle.text_core.proofs.Adding.{then}
use Rattle.record_core.proofs.Plain.{adds_as}
use Rattle.record_core.proofs.object.add_slot_number.Goals as goal

pub returns : goal.returns
returns g c = then _ _ _ _ _ c.add.ensures (adds_as c.add.new.self c.add_line.new.self _ _ (append-nil (decimal c.args.slot)) c.add_line.ensures)
