use Rattle.std.proofs.Common.{length}
use Rattle.program_input.proofs.shelf.+found.Given as goal

abbrev pub decreases-found : goal.decreases-found
decreases-found l = length l.files.now
