use Rattle.std.proofs.Common.{true, subst}
use Rattle.live_session.specs.Session.{Session}
use Rattle.live_session.specs.Taken.{IsGone}
use Rattle.live_session.proofs.Answering.{finish_taken}
use Rattle.live_session.proofs.live.Live.take_finish.Goals as goal

pub returns : goal.returns
returns g c =
    finish_taken c.args.self.now c.go-text.new.self c.args.text c.go-text.result c.add_end.new.text
    (subst (λ (s : Session). IsGone s.edges true c.args.self.now c.go-text.new.self c.args.text c.go-text.result) c.self.view_is c.go-text.ensures) c.add_end.ensures
