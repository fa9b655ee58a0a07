use Rattle.std.proofs.Common.{refl, map}
use Rattle.std.proofs.lemmas.List.{take_rest}
use Rattle.edid_fields.specs.Forms.{field_in_code}
use Rattle.infoframe_check.proofs.Adding.{first_then}
use Rattle.infoframe_check.specs.Records.{field_record, fields_text}
use Rattle.infoframe_check.proofs.fields.+add_reports.Goals as goal

pub returns-in-len1-up : goal.returns-in-len1-up
returns-in-len1-up g t c =
    let form = c.args.form in
    first_then (λ y. field_record form (field_in_code y)) (λ ys. fields_text form (map field_in_code ys)) (λ ys. fields_text form (map field_in_code ys))
    (λ y ys. refl) c.args.reports.now _ _ _ _ _ c.in-len1-up.len_at_least refl c.add_field.ensures (rw take_rest at c.add_reports.ensures)
