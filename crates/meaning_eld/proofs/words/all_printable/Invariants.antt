use Rattle.std.proofs.Common.{◌≡◌, length, take, map}
use Rattle.meaning_words.specs.Notes.{printable}
use Rattle.meaning_eld.proofs.words.all_printable.Given as goal

abbrev pub invariant-loop-byte : goal.invariant-loop-byte
invariant-loop-byte l = record {
  items : l.word.items ≡ map printable (take l.byte-index l.name);
  len : length l.word.items ≡ l.byte-index;
}
