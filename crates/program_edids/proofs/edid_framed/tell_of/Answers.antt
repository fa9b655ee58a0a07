use Rattle.std.proofs.Common.{rules, ◌≡◌, List, OnOk, length, subst}
use Rattle.edid_core.specs.Bytes.{edid_bytes}
use Rattle.edid_core.specs.declared.edid.Edid.{Edid}
use Rattle.edid_cta.specs.declared.raw.Ext.{Ext}
use Rattle.infoframe_tables.specs.Bytes.{frame_bytes}
use Rattle.program_edids.specs.Framed.{ShowsOfferedBy, TellsOffered}
use Rattle.program_edids.proofs.ShownLemmas.{on_ok}
use Rattle.program_edids.proofs.edid_framed.tell_of.Goals as goal

pub returns-in-Ok : goal.returns-in-Ok
returns-in-Ok g c =
    let counted : c.in-Ok.base.extensions ≡ length c.read_parts.new.extensions.items = search rules in
    let edid : Edid = record { base = c.in-Ok.base; extensions = c.read_parts.new.extensions; counted = counted; few = c.read_parts.ensures.few } in
    let spelled : edid_bytes edid ≡ c.args.bytes.now = search rules in
    let old = g.W.Sink.contents c.args.out.now in
    let new = g.W.Sink.contents c.tell.new.out in
    let P : List Ext → Type 0 = λ xs. OnOk c.tell.result (TellsOffered c.args.form (frame_bytes c.args.frame.now) c.in-Ok.base xs old new) in
    on_ok c.tell.result (TellsOffered c.args.form (frame_bytes c.args.frame.now) edid.base edid.extensions.items old new)
    (ShowsOfferedBy c.args.form (frame_bytes c.args.frame.now) c.args.bytes.now old new)
    (λ s. (edid, spelled, s)) (subst P c.as_slice.ensures.value c.tell.ensures)
