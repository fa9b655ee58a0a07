use Rattle.line_reading.specs.Hears.{heard_by}
use Rattle.line_reading.specs.Follows.{standing_by_code}
use Rattle.line_reading.proofs.Following.{stands_so}
use Rattle.line_reading.proofs.receiver.Receiver.standing.Goals as goal

pub returns : goal.returns
returns c = λ low t s.
    let old = c.args.self.now in
    stands_so (heard_by old) old.was_low (standing_by_code c.shown.result) c.shown.ensures low t s.keeps s.level.0
