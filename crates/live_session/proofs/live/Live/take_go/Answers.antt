use Rattle.std.proofs.Common.{false, refl, subst}
use Rattle.live_session.specs.Live.{session_of}
use Rattle.live_session.specs.Session.{Session, taken_text}
use Rattle.live_session.specs.Taken.{IsGone}
use Rattle.live_session.proofs.Answering.{go_taken}
use Rattle.live_session.proofs.Saying.{says_text}
use Rattle.live_session.proofs.live.Live.take_go.Goals as goal

pub returns : goal.returns
returns g c =
    let there = c.self-2.inside in
    go_taken c.args.self.now c.go-text.new.self c.args.text c.go-text.result c.add_taken.new.out
    (subst (λ (s : Session). IsGone s.edges false c.args.self.now c.go-text.new.self c.args.text c.go-text.result) c.self.view_is c.go-text.ensures)
    (says_text (λ form s. taken_text form s.horizon) there.form there.edid.value (session_of there) c.go-text.new.self c.go-text.result c.add_taken.new.out refl c.self-2.view_is c.add_taken.ensures)
