use Rattle.std.proofs.Common.{rules, ◌≡◌, length}
use Rattle.edid_core.specs.Bytes.{edid_bytes}
use Rattle.edid_core.specs.declared.edid.Edid.{Edid}
use Rattle.conversion_calls.proofs.edid_text.edid_to_text.Goals as goal

pub returns-in-Ok-write_parts-clause-answers : goal.returns-in-Ok-write_parts-clause-answers
returns-in-Ok-write_parts-clause-answers g c =
    let counted : c.in-Ok.base.extensions ≡ length c.read_parts.new.extensions.items = search rules in
    let edid : Edid = record { base = c.in-Ok.base; extensions = c.read_parts.new.extensions; counted = counted; few = c.read_parts.ensures.few } in
    let spelled : edid_bytes edid ≡ c.args.bytes.now = search rules in
    (edid, spelled, c.in-Ok-write_parts.ensures.0, c.in-Ok-write_parts.ensures.1)

pub returns-in-Err-write_parts-clause-answers : goal.returns-in-Err-write_parts-clause-answers
returns-in-Err-write_parts-clause-answers g c =
    let counted : c.in-Ok.base.extensions ≡ length c.read_parts.new.extensions.items = search rules in
    let edid : Edid = record { base = c.in-Ok.base; extensions = c.read_parts.new.extensions; counted = counted; few = c.read_parts.ensures.few } in
    let spelled : edid_bytes edid ≡ c.args.bytes.now = search rules in
    (edid, spelled, c.in-Err-write_parts.ensures)
