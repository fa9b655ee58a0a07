use Rattle.std.proofs.Common.{length}
use Rattle.meaning_tests.proofs.rows.bytes_of.Given as goal

abbrev pub decreases-loop-rest : goal.decreases-loop-rest
decreases-loop-rest g l = length l.rest
