use Rattle.std.proofs.Common.{take}
use Rattle.std.specs.List.{flat_map}
use Rattle.text_core.specs.Adds.{Adds}
use Rattle.message_lay.specs.Text.{pull_record}
use Rattle.message_lay.proofs.lay.add_pulls.Given as goal

-- the pulls so far are added
abbrev pub invariant-pulls : goal.invariant-pulls
invariant-pulls g l = Adds l.fn.out l.out (flat_map (pull_record l.form) (take l.pull-index l.pulls))
