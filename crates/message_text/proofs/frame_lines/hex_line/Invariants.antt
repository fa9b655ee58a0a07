use Rattle.std.proofs.Common.{◌≡◌, ◌*◌, length, take}
use Rattle.std.specs.List.{flat_map}
use Rattle.text_core.specs.Piece.{hex_text}
use Rattle.message_text.proofs.frame_lines.hex_line.Given as goal

abbrev pub invariant-loop-byte : goal.invariant-loop-byte
invariant-loop-byte l = record {
  so_far : l.line.items ≡ flat_map hex_text (take l.byte-index l.byte-items);
  count : length l.line.items ≡ 2 * l.byte-index;
}
