use Rattle.std.proofs.Common.{◌≡◌, ℕ, ◌+◌, ◌%◌, ◌<◌, Some, get_or}
use Rattle.edid_ddc.specs.Bus.{byte_at}
use Rattle.edid_ddc.proofs.ddc.Ddc.read.Given as goal

abbrev pub invariant-loop-place : goal.invariant-loop-place
invariant-loop-place l = record {
  read : (k : ℕ) → k < l.place-index → byte_at l.fn.self.bytes l.fn.self.segment ((l.fn.self.offset + k) % 256) ≡ Some (get_or l.out k 0);
  after : l.next ≡ (l.fn.self.offset + l.place-index) % 256;
}
