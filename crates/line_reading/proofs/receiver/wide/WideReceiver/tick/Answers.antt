use Rattle.std.proofs.Common.{sym, ◌∙◌}
use Rattle.line_reading.specs.Hears.{heard_by}
use Rattle.line_reading.proofs.FollowingBy.{follows_so, again_so, once_so, fewer_so}
use Rattle.line_reading.proofs.receiver.wide.WideReceiver.tick.Goals as goal

pub returns-clause-follows : goal.returns-clause-follows
returns-clause-follows c = λ low before s g.
    let old = c.args.self.now.receiver in
    let d = follows_so c.args.self.now.windows c.args.self.now.are (heard_by old) (heard_by c.step.new.self) old.was_low old.is_low c.args.t c.step.result c.step.ensures.heard low before s.keeps s.level g.from g.calm g.edge g.wake in
    (record { keeps = d.0; level = (c.step.ensures.level.0 ∙ sym g.edge, c.step.ensures.level.1 ∙ sym g.edge) }, d.1)

pub returns-clause-again : goal.returns-clause-again
returns-clause-again c = λ low other ending keeps level same ended alike edge.
    let old = c.args.self.now.receiver in
    let d = again_so c.args.self.now.windows c.args.self.now.are (heard_by old) (heard_by c.step.new.self) old.was_low old.is_low c.args.t c.step.result c.step.ensures.heard low other ending keeps level same ended alike edge in
    (record { keeps = d.0; level = (c.step.ensures.level.0 ∙ sym edge, c.step.ensures.level.1 ∙ sym edge) }, d.1)

pub returns-clause-once : goal.returns-clause-once
returns-clause-once c = λ low before s g.
    let old = c.args.self.now.receiver in once_so c.args.self.now.windows c.args.self.now.are (heard_by old) old.was_low c.args.t low before s.keeps s.level g.calm g.wake

pub returns-clause-fewer : goal.returns-clause-fewer
returns-clause-fewer c = λ wake level.
    let old = c.args.self.now.receiver in
    fewer_so c.args.self.now.windows c.args.self.now.are (heard_by old) (heard_by c.step.new.self) old.was_low old.is_low c.args.t c.step.result c.step.ensures.heard wake level
