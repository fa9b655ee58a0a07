use Rattle.std.proofs.Common.{◌≡◌, ◌+◌, ◌≤◌, [], false, length}
use Rattle.text_core.specs.Lines.{lines_of}
use Rattle.edid_dump.specs.Dump.{bytes_of_rows}
use Rattle.edid_dump.proofs.dump.gather.Given as goal

abbrev pub invariant-lines : goal.invariant-lines
invariant-lines l = record {
  so_far : bytes_of_rows l.fn.form l.first false [] (lines_of l.text) ≡ bytes_of_rows l.row_form l.number l.skips l.bytes.items (lines_of l.rest);
  room : l.number + length l.rest ≤ l.first + length l.text;
}

abbrev pub decreases-lines : goal.decreases-lines
decreases-lines l = length l.rest
