use Rattle.std.proofs.Common.{length}
use Rattle.meaning_words.proofs.bits.+append_bit_lines.Given as goal

abbrev pub decreases-append_bit_lines : goal.decreases-append_bit_lines
decreases-append_bit_lines l = length l.rows.now
