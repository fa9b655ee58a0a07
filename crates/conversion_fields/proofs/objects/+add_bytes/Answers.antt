use Rattle.std.proofs.Common.{refl, ◌+◌}
use Rattle.std.proofs.lemmas.List.{take_rest}
use Rattle.conversion_fields.proofs.Adding.{first_then}
use Rattle.conversion_fields.specs.Objects.{field_object, objects_text}
use Rattle.conversion_fields.specs.Said.{byte_said, bytes_said}
use Rattle.conversion_fields.proofs.objects.+add_bytes.Goals as goal

pub returns-in-len1-up : goal.returns-in-len1-up
unfolding bytes_said
returns-in-len1-up g t c =
    let n = c.args.number in
    let name = c.args.name.now in
    let found = c.args.found.now in
    let at = c.args.at in
    first_then (λ y. field_object n (byte_said name found at y)) (λ y ys. objects_text n (bytes_said name found (at + 1) ys)) (λ ys. objects_text n (bytes_said name found at ys))
    (λ y ys. refl) c.args.bytes.now _ _ _ _ _ c.in-len1-up.len_at_least refl c.add_byte.ensures (rw take_rest at c.add_bytes.ensures)
