use Rattle.std.proofs.Common.{take}
use Rattle.std.specs.List.{flat_map}
use Rattle.text_core.specs.Adds.{Adds}
use Rattle.record_core.specs.Cells.{bit_text}
use Rattle.record_core.proofs.object.add_digits.Given as goal

-- what comes so far is added
abbrev pub invariant-loop-bit : goal.invariant-loop-bit
invariant-loop-bit g l = Adds l.fn.out l.out (flat_map bit_text (take l.bit-index l.bits))
