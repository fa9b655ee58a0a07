use Rattle.std.proofs.Common.{◌≡◌, length, IsSome}
use Rattle.edid_dump.specs.Digits.{bytes_with_row}
use Rattle.edid_dump.specs.Spelled.{words_bytes}
use Rattle.edid_dump.proofs.spelled.push_words.Given as goal

abbrev pub invariant-words : goal.invariant-words
invariant-words l = record {
  so_far : bytes_with_row l.bytes.items (words_bytes l.spelling l.rest) ≡ bytes_with_row l.fn.bytes.items (words_bytes l.spelling l.text);
  some : IsSome (words_bytes l.spelling l.rest);
}

abbrev pub decreases-words : goal.decreases-words
decreases-words l = length l.rest
