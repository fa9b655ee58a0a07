use Rattle.std.proofs.Common.{List, subst}
use Rattle.text_core.proofs.Adding.{then}
use Rattle.text_core.specs.Adds.{Adds}
use Rattle.edid_fields.specs.Forms.{Part}
use Rattle.conversion_fields.specs.Objects.{objects_text}
use Rattle.conversion_fields.specs.Parts.{part_text}
use Rattle.conversion_fields.specs.Said.{all_said}
use Rattle.conversion_fields.proofs.whole.add_section.Goals as goal

pub returns : goal.returns
unfolding part_text
returns g c =
    then _ _ _ _ _ c.add_object.ensures
    (subst (λ (t : List Part). Adds c.add_object.new.out c.add_all.new.out (objects_text c.args.number (all_said c.args.at t c.args.bytes.now))) c.section_parts.ensures.value c.add_all.ensures)
