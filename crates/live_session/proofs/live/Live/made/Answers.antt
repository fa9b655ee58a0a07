use Rattle.std.proofs.Common.{◌≡◌, Some, MatchOption, refl, slice_get, subst, sym}
use Rattle.text_core.specs.Held.{held_bytes}
use Rattle.live_session.specs.declared.live.Step.{Step}
use Rattle.live_session.specs.Live.{session_of}
use Rattle.live_session.specs.Session.{Session}
use Rattle.live_session.specs.Shown.{IsMade, IsShow}
use Rattle.live_session.proofs.Saying.{made_shown, says}
use Rattle.live_session.proofs.live.Live.made.Goals as goal

pub returns-in-Show : goal.returns-in-Show
returns-in-Show c =
    let here = c.self.inside in
    let device = c.in-Show.device in
    let now = c.args.self.now in
    let found : slice_get now.place.net.devices device ≡ Some c.device.result.now =
    subst (λ (s : Session). slice_get s.place.net.devices device ≡ Some c.device.result.now) c.self.view_is c.device.ensures in
    subst (λ (step : Step). MatchOption c.state_made.result (IsShow step) (λ held. IsMade now step (held_bytes held))) (sym c.in-Show.is)
    (made_shown now device c.device.result.now here.form c.state_made.result (says (session_of here) now here.form here.edid.value refl c.self.view_is) found c.state_made.ensures)
