use Rattle.std.proofs.Common.{rules, ◌≡◌, List, length, refl, subst}
use Rattle.std.specs.Io.KnownBytes.{Appends}
use Rattle.edid_core.specs.Bytes.{edid_bytes}
use Rattle.edid_core.specs.declared.edid.Edid.{Edid}
use Rattle.edid_cta.specs.declared.raw.Ext.{Ext}
use Rattle.edid_room.specs.Records.{room_text}
use Rattle.program_edids.specs.Edids.{ShowsRoom}
use Rattle.program_edids.proofs.ShownLemmas.{on_ok}
use Rattle.program_edids.proofs.edid_described.write_own_room.Goals as goal

pub returns-in-Ok : goal.returns-in-Ok
returns-in-Ok g c =
    let counted : c.in-Ok.base.extensions ≡ length c.read_parts.new.extensions.items = search rules in
    let edid : Edid = record { base = c.in-Ok.base; extensions = c.read_parts.new.extensions; counted = counted; few = c.read_parts.ensures.few } in
    let spelled : edid_bytes edid ≡ c.args.bytes.now = search rules in
    let old = g.W.Sink.contents c.args.out.now in
    let new = g.W.Sink.contents c.write_records.new.out in
    let P : List Ext → Type 0 = λ xs. Appends old new (room_text c.args.form c.in-Ok.base xs) in
    on_ok c.write_records.result _ (ShowsRoom c.args.form c.args.bytes.now old new)
    (λ w. (room_text c.args.form edid.base edid.extensions.items, (edid, spelled, refl), subst P c.as_slice.ensures.value w)) c.write_records.ensures
