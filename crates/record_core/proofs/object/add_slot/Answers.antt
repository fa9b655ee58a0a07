use Rattle.text_core.proofs.Adding.{then}
use Rattle.record_core.proofs.object.add_slot.Goals as goal

pub returns : goal.returns
returns g c = then _ _ _ _ _ c.add_slot_number.ensures (then _ _ _ _ _ c.add.ensures (then _ _ _ _ _ c.add_bits.ensures c.add-2.ensures))
