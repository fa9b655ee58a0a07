use Rattle.edid_difference.proofs.Alike.{alike_same, same_alike}
use Rattle.edid_difference.proofs.laws.same_bytes_do_not_differ.Goals as goal

pub returns-clause-same : goal.returns-clause-same
returns-clause-same c = same_alike

pub returns-clause-only : goal.returns-clause-only
returns-clause-only c = alike_same
