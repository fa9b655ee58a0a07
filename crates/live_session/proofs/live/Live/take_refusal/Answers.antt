use Rattle.std.proofs.Common.{refl}
use Rattle.live_session.specs.Live.{session_of}
use Rattle.live_session.specs.Session.{refused_text}
use Rattle.live_session.proofs.Answering.{refuse_taken}
use Rattle.live_session.proofs.Saying.{says_text}
use Rattle.live_session.proofs.live.Live.take_refusal.Goals as goal

pub returns : goal.returns
returns g c =
    let here = c.self.inside in
    refuse_taken c.args.refusal c.args.self.now c.args.text c.add_refused.new.out
    (says_text (λ form s. refused_text form s.lines c.args.refusal) here.form here.edid.value (session_of here) c.args.self.now c.args.text c.add_refused.new.out refl c.self.view_is c.add_refused.ensures)
