use Rattle.std.proofs.Common.{rules, ◌≡◌, length, refl, sym, ap, ◌∙◌}
use Rattle.edid_core.specs.Address.{first_address}
use Rattle.edid_core.specs.Bytes.{edid_bytes}
use Rattle.edid_core.specs.declared.edid.Edid.{Edid}
use Rattle.conversion_calls.proofs.passed_on.write_address.Goals as goal

pub returns-in-None-clause-answers : goal.returns-in-None-clause-answers
returns-in-None-clause-answers g c =
    let counted : c.in-Ok._base.extensions ≡ length c.read_parts.new.extensions.items = search rules in
    let edid : Edid = record { base = c.in-Ok._base; extensions = c.read_parts.new.extensions; counted = counted; few = c.read_parts.ensures.few } in
    let spelled : edid_bytes edid ≡ c.args.bytes.now = search rules in
    ((edid, spelled, ap first_address (sym c.as_slice.ensures.value) ∙ sym c.first_address.ensures ∙ c.in-None.is), (refl, refl))

pub returns-in-Ok-write_address_line-clause-answers : goal.returns-in-Ok-write_address_line-clause-answers
returns-in-Ok-write_address_line-clause-answers g c =
    let counted : c.in-Ok._base.extensions ≡ length c.read_parts.new.extensions.items = search rules in
    let edid : Edid = record { base = c.in-Ok._base; extensions = c.read_parts.new.extensions; counted = counted; few = c.read_parts.ensures.few } in
    let spelled : edid_bytes edid ≡ c.args.bytes.now = search rules in (
      c.in-Some.address,
      (edid, spelled, ap first_address (sym c.as_slice.ensures.value) ∙ sym c.first_address.ensures ∙ c.in-Some.is),
      c.in-Ok-write_address_line.ensures.1,
      c.in-Ok-write_address_line.ensures.2,
    )

pub returns-in-Err-write_address_line-clause-answers : goal.returns-in-Err-write_address_line-clause-answers
returns-in-Err-write_address_line-clause-answers g c =
    let counted : c.in-Ok._base.extensions ≡ length c.read_parts.new.extensions.items = search rules in
    let edid : Edid = record { base = c.in-Ok._base; extensions = c.read_parts.new.extensions; counted = counted; few = c.read_parts.ensures.few } in
    let spelled : edid_bytes edid ≡ c.args.bytes.now = search rules in
    (c.in-Some.address, (edid, spelled, ap first_address (sym c.as_slice.ensures.value) ∙ sym c.first_address.ensures ∙ c.in-Some.is), c.in-Err-write_address_line.ensures)
