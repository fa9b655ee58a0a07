use Rattle.std.proofs.Common.{rules, ◌≡◌, List, length, refl, subst}
use Rattle.std.specs.Io.KnownBytes.{Appends}
use Rattle.edid_core.specs.Bytes.{edid_bytes}
use Rattle.edid_core.specs.declared.edid.Edid.{Edid}
use Rattle.edid_cta.specs.declared.raw.Ext.{Ext}
use Rattle.edid_eld.specs.Display.{display_parts}
use Rattle.edid_eld.specs.declared.codes.Connection.TheVariants.{Hdmi}
use Rattle.program_edids.specs.Elds.{ShowsEld, eld_shown}
use Rattle.program_edids.proofs.ShownLemmas.{on_ok}
use Rattle.program_edids.proofs.edid_described.write_own_eld.Goals as goal

pub returns-in-Ok : goal.returns-in-Ok
returns-in-Ok g c =
    let counted : c.in-Ok.base.extensions ≡ length c.read_parts.new.extensions.items = search rules in
    let edid : Edid = record { base = c.in-Ok.base; extensions = c.read_parts.new.extensions; counted = counted; few = c.read_parts.ensures.few } in
    let spelled : edid_bytes edid ≡ c.args.bytes.now = search rules in
    let old = g.W.Sink.contents c.args.out.now in
    let new = g.W.Sink.contents c.write_eld_shape.new.out in
    let P : List Ext → Type 0 = λ xs. Appends old new (eld_shown c.args.shape (display_parts c.in-Ok.base xs Hdmi)) in
    on_ok c.write_eld_shape.result _ (ShowsEld c.args.shape c.args.bytes.now old new)
    (λ w. (eld_shown c.args.shape (display_parts edid.base edid.extensions.items Hdmi), (edid, spelled, refl), subst P c.as_slice.ensures.value w)) c.write_eld_shape.ensures
