use Rattle.std.proofs.Common.{length}
use Rattle.program_calls.proofs.files.+read_files.Given as goal

abbrev pub decreases-read_files : goal.decreases-read_files
decreases-read_files g l = length l.names.now
