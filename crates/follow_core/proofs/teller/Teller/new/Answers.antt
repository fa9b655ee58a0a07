use Rattle.std.proofs.Common.{refl}
use Rattle.follow_core.proofs.Told.{told_first}
use Rattle.follow_core.proofs.teller.Teller.new.Goals as goal

pub returns-clause-untold : goal.returns-clause-untold
returns-clause-untold c = told_first c.args.windows _ c.with_windows.ensures c.new.ensures refl
