use Rattle.std.proofs.Common.{◌≡◌, ◌*◌, length, take}
use Rattle.std.specs.List.{flat_map}
use Rattle.std.specs.Io.KnownBytes.{Appends}
use Rattle.text_core.specs.Piece.{hex_text}
use Rattle.text_core.proofs.piece.put_hex.Given as goal

-- the digits of the bytes so far are written, and the flag is as it was
abbrev pub invariant-loop-byte : goal.invariant-loop-byte
invariant-loop-byte g l = record {
  so_far : Appends (g.S.Sink.contents l.fn.out) (g.S.Sink.contents l.out) (flat_map hex_text (take l.byte-index l.bytes));
  flag : g.S.Sink.is_stuck l.out ≡ g.S.Sink.is_stuck l.fn.out;
  count : l.written ≡ length (flat_map hex_text (take l.byte-index l.bytes));
  bound : l.written ≡ 2 * l.byte-index;
}
