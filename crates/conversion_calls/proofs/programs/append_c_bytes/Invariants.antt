use Rattle.std.proofs.Common.{◌≡◌, ◌+◌, ◌*◌, ◌++◌, flat_map, take}
use Rattle.arrayvec.specs.ArrayVec.{array_vec_len}
use Rattle.conversion_calls.specs.Programs.{c_byte}
use Rattle.conversion_calls.proofs.programs.append_c_bytes.Given as goal

abbrev pub invariant-loop-byte : goal.invariant-loop-byte
invariant-loop-byte l = record {
  items : l.text.items ≡ l.fn.text.items ++ flat_map c_byte (take l.byte-index l.bytes);
  len : array_vec_len l.text ≡ array_vec_len l.fn.text + 6 * l.byte-index;
}
