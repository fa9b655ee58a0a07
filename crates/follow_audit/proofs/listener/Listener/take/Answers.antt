use Rattle.std.proofs.Common.{refl}
use Rattle.follow_audit.proofs.Audited.{takes_next, takes_none}
use Rattle.follow_audit.proofs.listener.Listener.take.Goals as goal

pub returns-in-None : goal.returns-in-None
returns-in-None c = takes_none c.args.self.now c.args.edge c.in-None.is

pub returns-in_ok-push-in-Some : goal.returns-in_ok-push-in-Some
returns-in_ok-push-in-Some c =
    takes_next c.args.self.now c.let_go.new.self
    (record { auditor = c.let_go.new.self.auditor; window = c.push.new.self; from = c.let_go.new.self.from; waiting = c.let_go.new.self.waiting; view = c.let_go.new.self.view })
    c.args.edge c.in-Some.edge c.in-Some.is c.in_ok-let_go-in-Some.ensures refl refl refl refl c.in_ok-push-in-Some.ensures.items
