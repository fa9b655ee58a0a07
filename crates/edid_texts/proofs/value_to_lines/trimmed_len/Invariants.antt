use Rattle.std.proofs.Common.{◌≡◌, ◌≤◌, take}
use Rattle.edid_texts.specs.Lines.{bytes_without_zeros}
use Rattle.edid_texts.proofs.value_to_lines.trimmed_len.Given as goal

abbrev pub invariant-loop-i : goal.invariant-loop-i
invariant-loop-i l = record {
  within : l.len ≤ l.i;
  front : take l.len l.bytes ≡ bytes_without_zeros (take l.i l.bytes);
}
