use Rattle.std.proofs.Common.{◌≡◌, ◌∙◌, sym, true}
use Rattle.program_edids.specs.Framed.{TellsOffered}
use Rattle.program_edids.proofs.ShownLemmas.{on_ok}
use Rattle.infoframe_tables.specs.Bytes.{frame_bytes}
use Rattle.program_edids.proofs.edid_framed.tell.Goals as goal

pub returns : goal.returns
returns g c =
    let told = c.in_ok-right.ensures in
    on_ok c.if_right.result (c.in_ok-right.right ≡ true)
    (TellsOffered c.args.form (frame_bytes c.args.frame.now) c.args.base.now c.args.extensions.now (g.W.Sink.contents c.args.out.now) (g.W.Sink.contents c.write_infoframe.new.out))
    (λ is. (sym told.0 ∙ is, told.1)) c.if_right.ensures
