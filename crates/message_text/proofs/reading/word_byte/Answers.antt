use Rattle.std.proofs.Common.{◌≡◌, ℕ, ◌<◌, List, Option, Some, None, unwrap_or, IfSome, IfNone, ◌≢◌}
use Rattle.message_table.specs.WordSets.{word_of, words_of}
use Rattle.message_table.specs.declared.word_set.WordSet.{WordSet}
use Rattle.message_text.proofs.WordLemmas.{one_byte}
use Rattle.message_text.proofs.reading.word_byte.Goals as goal

by_found : (set : WordSet) (o : Option ℕ) (w : List ℕ) (byte : ℕ) → byte < 256
    → IfSome o (λ b. word_of (words_of set) b ≡ Some w)
    → IfNone o ((b : ℕ) → b < 256 → word_of (words_of set) b ≢ Some w)
    → word_of (words_of set) byte ≡ Some w → unwrap_or o 0 ≡ byte
by_found set None w byte small found none e = absurd (none byte small e)
by_found set (Some b) w byte small found none e = one_byte set b byte w found e

pub returns : goal.returns
returns c = λ byte small e.
    rw c.unwrap_or.ensures (by_found c.args.set c.byte.result c.args.word.now byte small c.byte.ensures.found c.byte.ensures.none e)
