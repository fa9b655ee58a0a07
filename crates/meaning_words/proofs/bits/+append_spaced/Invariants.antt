use Rattle.std.proofs.Common.{length}
use Rattle.meaning_words.proofs.bits.+append_spaced.Given as goal

abbrev pub decreases-append_spaced : goal.decreases-append_spaced
decreases-append_spaced l = length l.rows.now
