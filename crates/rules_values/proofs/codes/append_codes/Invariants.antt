use Rattle.std.proofs.Common.{◌≡◌, ◌+◌, ◌++◌, length, take, map}
use Rattle.rules_values.specs.VideoCodes.{code_of}
use Rattle.rules_values.proofs.codes.append_codes.Given as goal

abbrev pub invariant-loop-byte : goal.invariant-loop-byte
invariant-loop-byte l = record {
  items : l.codes.items ≡ l.fn.codes.items ++ map code_of (take l.byte-index l.bytes);
  len : length l.codes.items ≡ length l.fn.codes.items + l.byte-index;
}
