use Rattle.text_core.proofs.Adding.{then}
use Rattle.conversion_fields.specs.Objects.{field_text}
use Rattle.conversion_fields.proofs.objects.add_words.Goals as goal

pub returns : goal.returns
unfolding field_text
returns g c =
    then _ _ _ _ _ c.add_place.ensures
    (then _ _ _ _ _ c.add_string.ensures (then _ _ _ _ _ c.add_value.ensures (then _ _ _ _ _ c.add_string-2.ensures c.add_found.ensures)))
