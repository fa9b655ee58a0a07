use Rattle.std.proofs.Common.{subst, sym}
use Rattle.text_core.specs.Adds.{Adds}
use Rattle.message_lay.proofs.lay.LaidLinesTextOfLine.add.Goals as goal

pub returns : goal.returns
returns g c = λ text are. subst (Adds c.args.out.now c.add_laid.new.out) (sym are.2) (c.add_laid.ensures are.0 are.1)
