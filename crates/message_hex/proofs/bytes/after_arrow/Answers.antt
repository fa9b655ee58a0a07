use Rattle.std.proofs.Common.{◌∙◌, sym}
use Rattle.message_hex.proofs.Reading.{no_pair}
use Rattle.message_hex.proofs.bytes.after_arrow.Goals as goal

pub returns : goal.returns
returns c = sym (c.pairs.invariant ∙ no_pair c.pairs.best.now c.pairs.rest.now c.in_default.len_below)
