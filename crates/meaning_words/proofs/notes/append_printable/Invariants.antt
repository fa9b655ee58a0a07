use Rattle.std.proofs.Common.{◌≡◌, ◌+◌, ◌++◌, length, take, map}
use Rattle.meaning_words.specs.Notes.{printable}
use Rattle.meaning_words.proofs.notes.append_printable.Given as goal

abbrev pub invariant-loop-byte : goal.invariant-loop-byte
invariant-loop-byte l = record {
  items : l.page.items ≡ l.fn.page.items ++ map printable (take l.byte-index l.text);
  len : length l.page.items ≡ length l.fn.page.items + l.byte-index;
}
