use Rattle.std.proofs.Common.{◌≡◌, ℕ, ◌-◌, ◌*◌, ◌+◌, ◌%◌, ◌<◌, length, take, drop, sum, flat_map}
use Rattle.edid_cta.specs.Ext.{ext_bytes}
use Rattle.edid_core.specs.Bytes.{block_at}
use Rattle.edid_core.proofs.bytes.read_extensions.Given as goal

abbrev pub invariant-loop-number : goal.invariant-loop-number
invariant-loop-number l = record {
  read : flat_map ext_bytes l.extensions.items ≡ take (128 * (l.number - 1)) (drop 128 l.bytes);
  count : length l.extensions.items + 1 ≡ l.number;
  summed : (k : ℕ) → 0 < k → k < l.number → sum (block_at l.bytes k) % 256 ≡ 0;
}
