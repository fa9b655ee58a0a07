use Rattle.std.proofs.Common.{length}
use Rattle.line_wire_tests.proofs.pulled.+are_from.Given as goal

abbrev pub decreases-are_from : goal.decreases-are_from
decreases-are_from l = length l.pulls.now
