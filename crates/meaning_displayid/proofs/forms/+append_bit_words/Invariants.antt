use Rattle.std.proofs.Common.{length}
use Rattle.meaning_displayid.proofs.forms.+append_bit_words.Given as goal

abbrev pub decreases-append_bit_words : goal.decreases-append_bit_words
decreases-append_bit_words l = length l.words.now
