use Rattle.follow_core.proofs.Told.{tells_idle}
use Rattle.follow_core.proofs.teller.Teller.idle_by_end.Goals as goal

pub returns : goal.returns
returns c = tells_idle c.args.self.now c.args.end c.end.result c.end.ensures
