use Rattle.std.proofs.Common.{◌≡◌, map, length}
use Rattle.message_table.specs.WordSets.{word_in_code}
use Rattle.message_table.specs.Naming.{byte_of}
use Rattle.message_table.proofs.word_set.byte_in.Given as goal

-- none of the words before has the text
abbrev pub invariant-loop-rest : goal.invariant-loop-rest
invariant-loop-rest l = byte_of (map word_in_code l.words) l.text ≡ byte_of (map word_in_code l.rest) l.text

abbrev pub decreases-loop-rest : goal.decreases-loop-rest
decreases-loop-rest l = length l.rest
