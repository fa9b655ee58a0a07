use Rattle.std.proofs.Common.{Option, option_map, subst, sym}
use Rattle.std.specs.Option.{option_to_list}
use Rattle.line_frames.specs.declared.Reading.{Reading}
use Rattle.line_reading.specs.Reports.{listed_as}
use Rattle.follow_audit.specs.Listener.{SaysLast}
use Rattle.follow_audit.proofs.Audited.{last_line, last_none, last_remarked}
use Rattle.follow_audit.proofs.listener.Listener.hear_last.Goals as goal

pub returns-in-None : goal.returns-in-None
returns-in-None g c =
    subst (λ (o : Option Reading). SaysLast g.H.LineHearer.hears c.args.self.now (option_to_list (option_map listed_as o)) c.args.self.now c.args.out.now c.args.out.now) (sym c.in-None.is) (last_none g.H.LineHearer.hears c.args.self.now c.args.out.now (g.met.H.LineHearer.nothing c.args.out.now) c.requires)

pub returns-in-Some : goal.returns-in-Some
returns-in-Some g c =
    subst (λ (o : Option Reading). SaysLast g.H.LineHearer.hears c.args.self.now (option_to_list (option_map listed_as o)) c.remark.new.self c.args.out.now c.remark.new.out) (sym c.in-Some.is)
    (last_line g.H.LineHearer.hears g.met.H.LineHearer.then c.hear_line.ensures (last_remarked g.H.LineHearer.hears _ _ _ _ c.remark.ensures.remarks c.remark.ensures.heard))
