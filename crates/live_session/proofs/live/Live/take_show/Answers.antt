use Rattle.std.proofs.Common.{◌≡◌, Some, refl, slice_get, subst, sym}
use Rattle.record_core.specs.declared.cell.Form.{Form}
use Rattle.live_session.specs.Live.{session_of}
use Rattle.live_session.specs.Session.{Session, shown_text}
use Rattle.live_session.specs.Shown.{IsStateMade}
use Rattle.live_session.proofs.Answering.{show_taken}
use Rattle.live_session.proofs.Saying.{says, says_text}
use Rattle.live_session.proofs.live.Live.take_show.Goals as goal

pub add_shown-requires : goal.add_shown-requires
add_shown-requires g c =
    let here = c.self.inside in
    let found : slice_get c.args.self.now.place.net.devices c.args.device ≡ Some c.device.result.now =
    subst (λ (s : Session). slice_get s.place.net.devices c.args.device ≡ Some c.device.result.now) c.self.view_is c.device.ensures in
    subst (λ (f : Form). IsStateMade f c.device.result.now c.args.state.now) (sym (says (session_of here) c.args.self.now here.form here.edid.value refl c.self.view_is)) (c.requires.made c.device.result.now found)

pub returns : goal.returns
returns g c =
    let here = c.self.inside in
    show_taken c.args.self.now c.args.device c.device.result.now c.args.text c.add_shown.new.out
    (subst (λ (s : Session). slice_get s.place.net.devices c.args.device ≡ Some c.device.result.now) c.self.view_is c.device.ensures)
    (says_text (λ form s. shown_text form c.device.result.now) here.form here.edid.value (session_of here) c.args.self.now c.args.text c.add_shown.new.out refl c.self.view_is c.add_shown.ensures)
