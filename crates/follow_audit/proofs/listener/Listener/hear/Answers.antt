use Rattle.std.proofs.Common.{Option, option_map, subst, sym}
use Rattle.std.specs.Option.{option_to_list}
use Rattle.line_frames.specs.declared.Reading.{Reading}
use Rattle.line_reading.specs.Reports.{listed_as}
use Rattle.follow_audit.specs.Listener.{Says, SaysSome}
use Rattle.follow_audit.proofs.Audited.{hears_none, says_more, says_none}
use Rattle.follow_audit.proofs.listener.Listener.hear.Goals as goal

pub returns-in-None-clause-says : goal.returns-in-None-clause-says
returns-in-None-clause-says g c =
    subst (λ (o : Option Reading). Says g.H.LineHearer.hears c.args.self.now (option_to_list (option_map listed_as o)) c.args.self.now c.args.out.now c.args.out.now) (sym c.in-None.is) (says_none g.H.LineHearer.hears c.args.self.now c.args.out.now (g.met.H.LineHearer.nothing c.args.out.now))

pub returns-then-waits-clause-says : goal.returns-then-waits-clause-says
returns-then-waits-clause-says g c =
    subst (λ (o : Option Reading). SaysSome g.H.LineHearer.hears c.args.self.now (option_to_list (option_map listed_as o)) c.args.self.now c.args.out.now c.args.out.now) (sym c.in-Some.is)
    (hears_none g.H.LineHearer.hears c.args.self.now (listed_as c.in-Some.reading) c.args.out.now (g.met.H.LineHearer.nothing c.args.out.now) (c.waits.ensures.one c.if-waits.true))

pub returns-else-waits-clause-says : goal.returns-else-waits-clause-says
returns-else-waits-clause-says g c =
    subst (λ (o : Option Reading). Says g.H.LineHearer.hears c.args.self.now (option_to_list (option_map listed_as o)) c.settle.new.self c.args.out.now c.settle.new.out) (sym c.in-Some.is) (says_more g.H.LineHearer.hears g.met.H.LineHearer.then c.hear_line.ensures c.settle.ensures.says)

pub returns-in-None-clause-waits : goal.returns-in-None-clause-waits
returns-in-None-clause-waits g c = λ known. known

pub returns-then-waits-clause-waits : goal.returns-then-waits-clause-waits
returns-then-waits-clause-waits g c = λ known. known

pub returns-else-waits-clause-waits : goal.returns-else-waits-clause-waits
returns-else-waits-clause-waits g c = λ known. c.settle.ensures.waits
