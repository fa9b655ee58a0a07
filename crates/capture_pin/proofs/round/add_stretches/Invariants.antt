use Rattle.std.proofs.Common.{take}
use Rattle.std.specs.List.{flat_map}
use Rattle.text_core.specs.Adds.{Adds}
use Rattle.capture_pin.specs.Text.{stretch_text}
use Rattle.capture_pin.proofs.round.add_stretches.Given as goal

-- the lines of the stretches so far are added
abbrev pub invariant-loop-stretch : goal.invariant-loop-stretch
invariant-loop-stretch g l = Adds l.fn.out l.out (flat_map stretch_text (take l.stretch-index l.stretches))
