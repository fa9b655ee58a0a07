use Rattle.std.proofs.Common.{◌≡◌, ◌≤◌, ◌*◌, ◌-◌, length, take, flat_map}
use Rattle.edid_text_lines.specs.Text.{line_text}
use Rattle.edid_texts.specs.Lines.{part_lines}
use Rattle.library_wire.proofs.edids.text_length.Given as goal

abbrev pub invariant-lines : goal.invariant-lines
invariant-lines l = record {
  count : l.length ≡ length (flat_map line_text (take l.number (part_lines l.base l.extensions)));
  bound : l.length ≤ 300 * l.number;
  few : l.number ≤ 398;
}

abbrev pub decreases-lines : goal.decreases-lines
decreases-lines l = 399 - l.number
