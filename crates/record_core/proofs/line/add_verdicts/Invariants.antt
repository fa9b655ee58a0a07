use Rattle.std.proofs.Common.{take}
use Rattle.std.specs.List.{flat_map}
use Rattle.text_core.specs.Adds.{Adds}
use Rattle.record_core.specs.Cells.{verdict_text}
use Rattle.record_core.specs.Records.{as_text}
use Rattle.record_core.proofs.line.add_verdicts.Given as goal

-- what comes so far is added
abbrev pub invariant-loop-holds : goal.invariant-loop-holds
invariant-loop-holds g l = Adds l.fn.out l.out (as_text l.quoted (flat_map verdict_text (take l.holds-index l.verdicts)))
