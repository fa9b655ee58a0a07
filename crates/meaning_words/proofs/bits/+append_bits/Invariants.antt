use Rattle.std.proofs.Common.{length}
use Rattle.meaning_words.proofs.bits.+append_bits.Given as goal

abbrev pub decreases-append_bits : goal.decreases-append_bits
decreases-append_bits l = length l.rows.now
