use Rattle.std.proofs.Common.{sym, refl}
use Rattle.edid_base.proofs.Bytes.{cells}
use Rattle.edid_base.proofs.timing.Timing.new.Goals as goal

pub returns : goal.returns
returns c = (sym (cells c.args.numbers.now 13 c.if-n-ne13.false), refl)
