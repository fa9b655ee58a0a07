use Rattle.std.proofs.Common.{take}
use Rattle.std.specs.List.{flat_map}
use Rattle.text_core.specs.Adds.{Adds}
use Rattle.record_core.specs.Strings.{escaped_byte}
use Rattle.record_core.specs.Records.{as_text}
use Rattle.record_core.proofs.line.add_escaped.Given as goal

-- what comes so far is added
abbrev pub invariant-loop-byte : goal.invariant-loop-byte
invariant-loop-byte g l = Adds l.fn.out l.out (as_text l.quoted (flat_map escaped_byte (take l.byte-index l.text)))
