use Rattle.std.proofs.Common.{◌≡◌, map, length}
use Rattle.message_meaning.specs.Sentences.{sentence_in, sentence_in_code}
use Rattle.message_meaning.proofs.sentences.sentence_in.Given as goal

-- none of the sentences before is the opcode's
abbrev pub invariant-sentences : goal.invariant-sentences
invariant-sentences l = sentence_in (map sentence_in_code l.sentences) l.opcode ≡ sentence_in (map sentence_in_code l.rest) l.opcode

abbrev pub decreases-sentences : goal.decreases-sentences
decreases-sentences l = length l.rest
