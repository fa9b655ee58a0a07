use Rattle.follow_audit.proofs.Audited.{all_told, says_none, says_remarked}
use Rattle.follow_audit.proofs.listener.Listener.settle.Goals as goal

pub returns-clause-says : goal.returns-clause-says
returns-clause-says g c =
    says_remarked g.H.LineHearer.hears c.args.self.now c.remark.new.self c.args.out.now c.remark.new.out (c.is_settled.ensures.known c.if-not-is_settled.false) c.remark.ensures.remarks c.remark.ensures.heard

pub returns-clause-waits : goal.returns-clause-waits
returns-clause-waits g c = all_told c.remark.new.self c.remark.ensures.remarks.none

pub returns-then-not-is_settled-clause-says : goal.returns-then-not-is_settled-clause-says
returns-then-not-is_settled-clause-says g c = says_none g.H.LineHearer.hears c.args.self.now c.args.out.now (g.met.H.LineHearer.nothing c.args.out.now)

pub returns-then-not-is_settled-clause-waits : goal.returns-then-not-is_settled-clause-waits
returns-then-not-is_settled-clause-waits g c = c.is_settled.ensures.waits c.if-not-is_settled.true
