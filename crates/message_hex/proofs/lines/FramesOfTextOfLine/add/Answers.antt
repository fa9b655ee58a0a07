use Rattle.std.proofs.Common.{subst, sym}
use Rattle.text_core.specs.Adds.{Adds}
use Rattle.message_hex.proofs.lines.FramesOfTextOfLine.add.Goals as goal

pub returns : goal.returns
returns g c = λ text e. subst (Adds c.args.out.now c.add_one.new.out) (sym e) c.add_one.ensures
