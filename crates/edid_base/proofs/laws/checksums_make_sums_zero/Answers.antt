use Rattle.edid_base.proofs.Accepted.{summed_is}
use Rattle.edid_base.proofs.PartLemmas.{checked}
use Rattle.edid_base.proofs.laws.checksums_make_sums_zero.Goals as goal

pub returns-clause-zero : goal.returns-clause-zero
returns-clause-zero c = summed_is

pub returns-clause-only : goal.returns-clause-only
returns-clause-only c = checked
