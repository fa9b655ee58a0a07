use Rattle.std.proofs.Common.{refl, map}
use Rattle.std.proofs.lemmas.List.{take_rest}
use Rattle.edid_fields.specs.Forms.{field_in_code}
use Rattle.conversion_fields.proofs.Adding.{first_then}
use Rattle.conversion_fields.specs.Objects.{field_object, objects_text}
use Rattle.conversion_fields.specs.Said.{said_of}
use Rattle.conversion_fields.proofs.objects.+add_fields.Goals as goal

pub returns-in-len1-up : goal.returns-in-len1-up
returns-in-len1-up g t c =
    let n = c.args.number in
    let s = c.args.start in
    first_then (λ y. field_object n (said_of s (field_in_code y))) (λ y ys. objects_text n (map (said_of s) (map field_in_code ys))) (λ ys. objects_text n (map (said_of s) (map field_in_code ys)))
    (λ y ys. refl) c.args.reports.now _ _ _ _ _ c.in-len1-up.len_at_least refl c.add_field.ensures (rw take_rest at c.add_fields.ensures)
