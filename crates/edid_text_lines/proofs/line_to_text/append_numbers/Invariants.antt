use Rattle.std.proofs.Common.{◌≡◌, ◌≤◌, ◌+◌, ◌*◌, ◌++◌, flat_map, take}
use Rattle.arrayvec.specs.ArrayVec.{array_vec_len}
use Rattle.edid_text_lines.specs.Text.{number_text}
use Rattle.edid_text_lines.proofs.line_to_text.append_numbers.Given as goal

abbrev pub invariant-loop-number : goal.invariant-loop-number
invariant-loop-number l = record {
  items : l.text.items ≡ l.fn.text.items ++ flat_map number_text (take l.number-index l.numbers);
  most : array_vec_len l.text ≤ array_vec_len l.fn.text + 11 * l.number-index;
}
