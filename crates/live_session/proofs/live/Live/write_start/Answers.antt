use Rattle.std.proofs.Common.{ℕ, List, Option, ◌∙◌, ap₂, false, subst}
use Rattle.edid_core.specs.declared.edid.Edid.{Edid}
use Rattle.text_core.specs.Cut.{WrittenText}
use Rattle.edid_tree.specs.Node.{Node}
use Rattle.room_trace.specs.PortText.{port_texts}
use Rattle.room_run.specs.Run.{start_reported}
use Rattle.live_session.specs.Session.{Session}
use Rattle.live_session.proofs.Saying.{start_is}
use Rattle.live_session.proofs.live.Live.write_start.Goals as goal

pub returns : goal.returns
returns g c =
    let here = c.self.inside in
    let old = c.args.out.now in
    let new = c.write_first_ports.new.out in
    subst (λ (s : Session). WrittenText (g.S.Sink.contents old) (g.S.Sink.contents new) (g.S.Sink.is_stuck old) (g.S.Sink.is_stuck new) (start_reported s.reporting s.place.net) c.write_first_ports.result) c.self.view_is
    (subst (λ (t : List ℕ). WrittenText (g.S.Sink.contents old) (g.S.Sink.contents new) (g.S.Sink.is_stuck old) (g.S.Sink.is_stuck new) t c.write_first_ports.result)
    (ap₂ (λ (edid : Option Edid) (tree : List Node). port_texts here.form 0 edid (λ device. false) tree) c.deref.ensures c.tree.ensures ∙ start_is here.form here.edid.value here.net) c.write_first_ports.ensures)
