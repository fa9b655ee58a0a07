use Rattle.std.proofs.Common.{length}
use Rattle.meaning_cta.proofs.stereo.+append_entries.Given as goal

abbrev pub decreases-append_entries : goal.decreases-append_entries
decreases-append_entries l = length l.bytes.now
