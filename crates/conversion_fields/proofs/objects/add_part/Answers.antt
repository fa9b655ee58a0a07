use Rattle.text_core.proofs.Adding.{then}
use Rattle.conversion_fields.specs.Objects.{part_object}
use Rattle.conversion_fields.proofs.objects.add_part.Goals as goal

pub returns : goal.returns
unfolding part_object
returns g c = then _ _ _ _ _ c.add_begin.ensures (then _ _ _ _ _ c.add_string.ensures c.add_lengths.ensures)
