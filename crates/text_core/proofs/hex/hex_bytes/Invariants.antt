use Rattle.std.proofs.Common.{◌≡◌, ◌≤◌, ◌+◌, ◌*◌, ◌++◌, length}
use Rattle.text_core.specs.Hex.{hex_bytes}
use Rattle.text_core.proofs.hex.hex_bytes.Given as goal

abbrev pub invariant-loop-rest : goal.invariant-loop-rest
invariant-loop-rest g l = record {
  so_far : l.items.items ++ hex_bytes l.rest ≡ hex_bytes l.digits;
  room : 2 * length l.items.items + length l.rest ≤ 2 * g.row.N;
}

abbrev pub decreases-loop-rest : goal.decreases-loop-rest
decreases-loop-rest g l = length l.rest
