use Rattle.std.proofs.Common.{sym}
use Rattle.edid_base.proofs.Bytes.{cells}
use Rattle.edid_base.proofs.chroma.Chroma.new.Goals as goal

pub returns : goal.returns
returns c = sym (cells c.args.numbers.now 8 c.if-n-ne8.false)
