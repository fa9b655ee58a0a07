use Rattle.std.proofs.Common.{◌≡◌, ◌≤◌, ◌*◌, ◌-◌, length, take, flat_map}
use Rattle.std.specs.Io.KnownBytes.{Appends}
use Rattle.rules_values.specs.VideoCodes.{video_codes}
use Rattle.conversion_notes.specs.Meanings.{line_with_meaning}
use Rattle.edid_texts.specs.Lines.{part_lines}
use Rattle.conversion_notes.proofs.writing.write_meaning.Given as goal

abbrev pub invariant-loop-line : goal.invariant-loop-line
invariant-loop-line g l = record {
  so_far : Appends (g.S.Sink.contents l.fn.out) (g.S.Sink.contents l.out) (flat_map (line_with_meaning l.base (video_codes l.fn.extensions.items)) (take l.number (part_lines l.base l.fn.extensions.items)));
  flag : g.S.Sink.is_stuck l.out ≡ g.S.Sink.is_stuck l.fn.out;
  count : l.written ≡ length (flat_map (line_with_meaning l.base (video_codes l.fn.extensions.items)) (take l.number (part_lines l.base l.fn.extensions.items)));
  bound : l.written ≤ 24576 * l.number;
  few : l.number ≤ 398;
}

abbrev pub decreases-loop-line : goal.decreases-loop-line
decreases-loop-line g l = 399 - l.number
