use Rattle.std.proofs.Common.{length}
use Rattle.program_captures.proofs.signs.dump_names.Given as goal

abbrev pub decreases-lines : goal.decreases-lines
decreases-lines l = length l.rest
