use Rattle.std.proofs.Common.{◌≡◌, ◌+◌, ◌≤◌, length}
use Rattle.edid_dump.specs.Spelled.{words_bytes}
use Rattle.edid_dump.proofs.Pairing.{counts}
use Rattle.edid_dump.proofs.spelled.words_count.Given as goal

abbrev pub invariant-words : goal.invariant-words
invariant-words l = record {
  so_far : counts l.count (words_bytes l.spelling l.rest) ≡ counts 0 (words_bytes l.spelling l.text);
  room : l.count + length l.rest ≤ length l.text;
}

abbrev pub decreases-words : goal.decreases-words
decreases-words l = length l.rest
