use Rattle.std.proofs.Common.{◌≡◌, take}
use Rattle.arrayvec.specs.ArrayVec.{array_vec_len}
use Rattle.line_wire.proofs.senders.copied_senders.Given as goal

-- the senders so far
abbrev pub invariant-loop-sender : goal.invariant-loop-sender
invariant-loop-sender l = record {
  items : l.copy.items ≡ take l.sender-index l.senders;
  len : array_vec_len l.copy ≡ l.sender-index;
}
