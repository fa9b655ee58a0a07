use Rattle.std.proofs.Common.{rules, ◌≡◌, length}
use Rattle.edid_core.specs.Bytes.{edid_bytes}
use Rattle.edid_core.specs.declared.edid.Edid.{Edid}
use Rattle.conversion_notes.proofs.edid_meaning.edid_to_meaning.Goals as goal

pub returns-in-Ok-write_meaning-clause-answers : goal.returns-in-Ok-write_meaning-clause-answers
returns-in-Ok-write_meaning-clause-answers g c =
    let counted : c.in-Ok.base.extensions ≡ length c.read_parts.new.extensions.items = search rules in
    let edid : Edid = record { base = c.in-Ok.base; extensions = c.read_parts.new.extensions; counted = counted; few = c.read_parts.ensures.few } in
    let spelled : edid_bytes edid ≡ c.args.bytes.now = search rules in
    (edid, spelled, c.in-Ok-write_meaning.ensures.0, c.in-Ok-write_meaning.ensures.1)

pub returns-in-Err-write_meaning-clause-answers : goal.returns-in-Err-write_meaning-clause-answers
returns-in-Err-write_meaning-clause-answers g c =
    let counted : c.in-Ok.base.extensions ≡ length c.read_parts.new.extensions.items = search rules in
    let edid : Edid = record { base = c.in-Ok.base; extensions = c.read_parts.new.extensions; counted = counted; few = c.read_parts.ensures.few } in
    let spelled : edid_bytes edid ≡ c.args.bytes.now = search rules in
    (edid, spelled, c.in-Err-write_meaning.ensures)
