use Rattle.std.proofs.Common.{◌≡◌, ◌≤◌, ◌*◌, ◌^◌, length, take}
use Rattle.std.specs.List.{flat_map}
use Rattle.std.specs.Io.KnownBytes.{Appends}
use Rattle.text_core.specs.Piece.{piece_text}
use Rattle.text_core.proofs.piece.write_pieces.Given as goal

abbrev pub invariant-loop-piece : goal.invariant-loop-piece
invariant-loop-piece g l = record {
  so_far : Appends (g.S.Sink.contents l.fn.out) (g.S.Sink.contents l.out) (flat_map piece_text (take l.piece-index l.pieces));
  flag : g.S.Sink.is_stuck l.out ≡ g.S.Sink.is_stuck l.fn.out;
  count : l.written ≡ length (flat_map piece_text (take l.piece-index l.pieces));
  bound : l.written ≤ 2 ^ 64 * l.piece-index;
}
