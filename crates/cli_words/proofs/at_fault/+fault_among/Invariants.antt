use Rattle.std.proofs.Common.{length}
use Rattle.cli_words.proofs.at_fault.+fault_among.Given as goal

abbrev pub decreases-fault_among : goal.decreases-fault_among
decreases-fault_among g l = length l.words.now
