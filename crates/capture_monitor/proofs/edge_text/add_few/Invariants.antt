use Rattle.std.proofs.Common.{◌≡◌, ◌*◌, take}
use Rattle.std.specs.List.{flat_map}
use Rattle.arrayvec.specs.ArrayVec.{array_vec_len}
use Rattle.text_core.specs.Piece.{piece_text}
use Rattle.capture_monitor.specs.EdgeText.{stretch_lines}
use Rattle.capture_monitor.proofs.edge_text.add_few.Given as goal

-- the lines of the stretches so far are there, in four parts each
abbrev pub invariant-loop-stretch : goal.invariant-loop-stretch
invariant-loop-stretch g l = record {
  so_far : flat_map piece_text l.lines.items ≡ flat_map stretch_lines (take l.stretch-index l.stretches);
  count : array_vec_len l.lines ≡ l.stretch-index * 4;
}
