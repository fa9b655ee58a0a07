use Rattle.std.proofs.Common.{rules, ◌≡◌, ◌++◌, Some, IsTrue, length, refl, sym, ap, ◌∙◌}
use Rattle.text_core.specs.declared.phys.Phys.{Phys}
use Rattle.edid_base.specs.Base.{base_bytes}
use Rattle.edid_core.specs.Address.{first_address}
use Rattle.edid_core.specs.Bytes.{edid_bytes}
use Rattle.edid_core.specs.Passing.{passed_extensions}
use Rattle.edid_core.specs.declared.edid.Edid.{Edid}
use Rattle.conversion_calls.specs.Passing.{is_place}
use Rattle.conversion_calls.proofs.passing.pass_on.Goals as goal

pub returns-in_default-clause-refused : goal.returns-in_default-clause-refused
returns-in_default-clause-refused c =
    let placed : IsTrue (is_place c.args.passing.place) = search rules in
    let counted : c.in-Ok.base.extensions ≡ length c.read_parts.new.extensions.items = search rules in
    let edid : Edid = record { base = c.in-Ok.base; extensions = c.read_parts.new.extensions; counted = counted; few = c.read_parts.ensures.few } in
    let spelled : edid_bytes edid ≡ c.args.bytes.now = search rules in
    (placed, edid, spelled, ap first_address (sym c.as_slice.ensures.value) ∙ sym c.first_address.ensures ∙ c.in_default.is)

pub returns-in-Ok-pass_on_extensions-clause-passed : goal.returns-in-Ok-pass_on_extensions-clause-passed
returns-in-Ok-pass_on_extensions-clause-passed c =
    let base = c.in-Ok.base in
    let counted : base.extensions ≡ length c.read_parts.new.extensions.items = search rules in
    let edid : Edid = record { base = base; extensions = c.read_parts.new.extensions; counted = counted; few = c.read_parts.ensures.few } in
    let spelled : edid_bytes edid ≡ c.args.bytes.now = search rules in
    let own = c.in-Some.own in
    let passed = c.in-Ok-pass_on_extensions.ensures in
    let p : Edid = record {
      base = base;
      extensions = c.pass_on_extensions.new.list;
      counted = counted ∙ sym c.pass_on_extensions.ensures.count;
      few = rw c.pass_on_extensions.ensures.count c.read_parts.ensures.few;
    } in (
      p,
      refl,
      refl,
      (
        edid,
        spelled,
        own,
        record {
          reported = ap first_address (sym c.as_slice.ensures.value) ∙ sym c.first_address.ensures ∙ c.in-Some.is;
          bytes = ap (λ t. base_bytes base ++ t) passed.bytes ∙ ap (λ a. base_bytes base ++ passed_extensions c.args.passing.audio a c.read_parts.new.extensions.items) c.place_address.ensures;
          address = passed.addressed ∙ ap (λ (a : Phys). Some a) c.place_address.ensures;
        },
      ),
    )
