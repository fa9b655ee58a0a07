use Rattle.std.proofs.Common.{length}
use Rattle.meaning_cta.proofs.stereo.+append_masked_lines.Given as goal

abbrev pub decreases-append_masked_lines : goal.decreases-append_masked_lines
decreases-append_masked_lines l = length l.weights.now
