use Rattle.std.proofs.Common.{length}
use Rattle.cli_edid.proofs.flags.+edid_flags.Given as goal

abbrev pub decreases-edid_flags : goal.decreases-edid_flags
decreases-edid_flags l = length l.words.now
