use Rattle.edid_base.proofs.Accepted.{accepted}
use Rattle.edid_base.proofs.laws.spelled_bases_are_accepted.Goals as goal

pub returns : goal.returns
returns c = accepted
