use Rattle.std.proofs.Common.{◌≡◌, ◌≤◌, ◌*◌, ◌-◌, length, take, flat_map}
use Rattle.std.specs.Io.KnownBytes.{Appends}
use Rattle.edid_text_lines.specs.Text.{line_text}
use Rattle.edid_texts.specs.Lines.{part_lines}
use Rattle.edid_texts.proofs.writing.write_parts.Given as goal

abbrev pub invariant-loop-line : goal.invariant-loop-line
invariant-loop-line g l = record {
  so_far : Appends (g.S.Sink.contents l.fn.out) (g.S.Sink.contents l.out) (flat_map line_text (take l.number (part_lines l.base l.fn.extensions.items)));
  flag : g.S.Sink.is_stuck l.out ≡ g.S.Sink.is_stuck l.fn.out;
  count : l.written ≡ length (flat_map line_text (take l.number (part_lines l.base l.fn.extensions.items)));
  bound : l.written ≤ 300 * l.number;
  few : l.number ≤ 398;
}

abbrev pub decreases-loop-line : goal.decreases-loop-line
decreases-loop-line g l = 399 - l.number
