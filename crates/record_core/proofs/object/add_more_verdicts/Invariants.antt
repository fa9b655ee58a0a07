use Rattle.std.proofs.Common.{take, codes, ◌++◌, Bool}
use Rattle.std.specs.List.{flat_map}
use Rattle.text_core.specs.Adds.{Adds}
use Rattle.record_core.specs.Cells.{switch_json}
use Rattle.record_core.proofs.object.add_more_verdicts.Given as goal

-- what comes so far is added
abbrev pub invariant-loop-holds : goal.invariant-loop-holds
invariant-loop-holds g l = Adds l.fn.out l.out (flat_map (λ (y : Bool). codes "," ++ switch_json y) (take l.holds-index l.verdicts))
