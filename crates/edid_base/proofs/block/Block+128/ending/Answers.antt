use Rattle.std.proofs.Common.{◌%◌, sum, ap, ◌∙◌}
use Rattle.edid_base.proofs.Accepted.{summed_is}
use Rattle.edid_base.proofs.block.Block+128.ending.Goals as goal

pub invariant_of-result-clause-checked : goal.invariant_of-result-clause-checked
invariant_of-result-clause-checked c = ap (λ xs. sum xs % 256) c.with_checksum.ensures ∙ summed_is c.args.front.now
