use Rattle.std.proofs.Common.{sym, subst}
use Rattle.line_reading.specs.Hears.{heard_by}
use Rattle.line_reading.specs.Follows.{IsNextReported}
use Rattle.line_reading.proofs.Following.{wakes_so}
use Rattle.line_reading.proofs.receiver.Receiver.wakes_at.Goals as goal

pub returns-clause-wakes : goal.returns-clause-wakes
returns-clause-wakes c = λ low t s quiet.
    let old = c.args.self.now in
    subst (IsNextReported low t) (sym c.wake.ensures) (wakes_so (heard_by old) old.was_low low t s.keeps s.level quiet)
