use Rattle.edid_fields.proofs.Told.{told}
use Rattle.edid_fields.specs.Forms.{field_in_code}
use Rattle.edid_fields.proofs.laws.reserved_is_told.Goals as goal

pub returns : goal.returns
returns c = told (field_in_code c.args.report).row.2 c.args.report.value c.requires
