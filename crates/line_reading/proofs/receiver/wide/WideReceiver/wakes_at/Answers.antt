use Rattle.std.proofs.Common.{sym, subst}
use Rattle.line_reading.specs.Hears.{heard_by}
use Rattle.line_reading.specs.Follows.{IsNextReportedBy}
use Rattle.line_reading.proofs.FollowingBy.{wakes_so}
use Rattle.line_reading.proofs.receiver.wide.WideReceiver.wakes_at.Goals as goal

pub returns-clause-wakes : goal.returns-clause-wakes
returns-clause-wakes c = λ low t s quiet.
    let old = c.args.self.now.receiver in
    subst (IsNextReportedBy c.args.self.now.windows low t) (sym c.wake.ensures) (wakes_so c.args.self.now.windows c.args.self.now.are (heard_by old) old.was_low low t s.keeps s.level quiet)
