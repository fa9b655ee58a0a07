use Rattle.std.proofs.Common.{◌≡◌, map, length}
use Rattle.message_table.specs.WordSets.{word_in_code, word_of}
use Rattle.message_table.proofs.word_set.text_in.Given as goal

-- none of the words before stands for the byte
abbrev pub invariant-loop-rest : goal.invariant-loop-rest
invariant-loop-rest l = word_of (map word_in_code l.words) l.byte ≡ word_of (map word_in_code l.rest) l.byte

abbrev pub decreases-loop-rest : goal.decreases-loop-rest
decreases-loop-rest l = length l.rest
