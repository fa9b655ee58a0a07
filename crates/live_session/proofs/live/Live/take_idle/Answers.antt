use Rattle.std.proofs.Common.{refl}
use Rattle.live_session.specs.Live.{session_of}
use Rattle.live_session.specs.Session.{idle_text}
use Rattle.live_session.proofs.Answering.{idle_taken}
use Rattle.live_session.proofs.Saying.{says_text}
use Rattle.live_session.proofs.live.Live.take_idle.Goals as goal

pub returns : goal.returns
returns g c =
    let here = c.self.inside in
    idle_taken c.args.self.now c.args.text c.add_idle.new.out
    (says_text (λ form s. idle_text form s.horizon) here.form here.edid.value (session_of here) c.args.self.now c.args.text c.add_idle.new.out refl c.self.view_is c.add_idle.ensures)
