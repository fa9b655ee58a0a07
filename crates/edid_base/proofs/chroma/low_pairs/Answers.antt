use Rattle.edid_base.proofs.PairLemmas.{pairs_are}
use Rattle.edid_base.proofs.chroma.low_pairs.Goals as goal

pub returns : goal.returns
returns c = pairs_are c.args.a c.args.b c.args.c c.args.d
