use Rattle.std.proofs.Common.{◌≡◌, ◌++◌, length}
use Rattle.std.specs.List.{flat_map}
use Rattle.text_core.specs.Lines.{lines_of}
use Rattle.expect_sweep.specs.Script.{line_at, script_at}
use Rattle.expect_sweep.proofs.script.script_at.Given as goal

-- the lines that are appended, and those that are left
abbrev pub invariant-lines : goal.invariant-lines
invariant-lines l = l.text.items ++ flat_map (line_at l.at) (lines_of l.rest) ≡ script_at l.at l.script

abbrev pub decreases-lines : goal.decreases-lines
decreases-lines l = length l.rest
