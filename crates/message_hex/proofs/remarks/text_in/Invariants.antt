use Rattle.std.proofs.Common.{◌≡◌, map, length}
use Rattle.message_table.specs.WordSets.{word_in_code, word_of}
use Rattle.message_hex.proofs.remarks.text_in.Given as goal

-- none of the words before stands for the byte
abbrev pub invariant-words : goal.invariant-words
invariant-words l = word_of (map word_in_code l.words) l.byte ≡ word_of (map word_in_code l.rest) l.byte

abbrev pub decreases-words : goal.decreases-words
decreases-words l = length l.rest
