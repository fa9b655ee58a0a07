use Rattle.std.proofs.Common.{refl}
use Rattle.follow_core.specs.Passing.{edges_in}
use Rattle.follow_audit.proofs.Followed.{going_alone, line_heard_so, line_refused}
use Rattle.follow_audit.proofs.follower.AuditFollower.line.Goals as goal

pub returns-in-Err-clause-hears : goal.returns-in-Err-clause-hears
returns-in-Err-clause-hears g c =
    let now = c.args.self.now in
    line_refused c.args.signal.now c.args.number c.args.line.now now (record { lines = c.take.new.self; teller = now.teller; listener = now.listener; remarked = now.remarked })
    (record { lines = c.take.new.self; teller = now.teller; listener = now.listener; remarked = now.remarked }) c.in-Err.fault (g.S.Sink.contents c.args.out.now)
    c.in-Err.ensures.takes c.in-Err.ensures.place

pub returns-in-Ok-clause-hears : goal.returns-in-Ok-clause-hears
returns-in-Ok-clause-hears g c =
    let now = c.args.self.now in
    line_heard_so c.args.signal.now c.args.number c.args.line.now now (record { lines = c.take.new.self; teller = now.teller; listener = now.listener; remarked = now.remarked }) c.go_on.new.self c.in-Ok.passed
    (g.S.Sink.contents c.args.out.now) (g.S.Sink.contents c.go_on.new.out) c.go_on.result refl refl refl c.in-Ok.ensures.takes c.in-Ok.ensures.shortest c.go_on.ensures.onward c.go_on.ensures.prompt

pub returns-in-Ok-clause-alone : goal.returns-in-Ok-clause-alone
returns-in-Ok-clause-alone g c =
    let now = c.args.self.now in
    going_alone (record { lines = c.take.new.self; teller = now.teller; listener = now.listener; remarked = now.remarked }) c.go_on.new.self (edges_in c.in-Ok.passed) (g.S.Sink.contents c.args.out.now) (g.S.Sink.contents c.go_on.new.out)
    c.go_on.result c.args.out.now c.go_on.new.out c.go_on.ensures.onward
