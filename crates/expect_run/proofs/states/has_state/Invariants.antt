use Rattle.std.proofs.Common.{◌≡◌, length}
use Rattle.std.specs.List.{list_any}
use Rattle.text_core.specs.Lines.{lines_of}
use Rattle.expect_judge.specs.Judged.{is_of_state}
use Rattle.expect_run.proofs.states.has_state.Given as goal

-- no line before speaks of one
abbrev pub invariant-lines : goal.invariant-lines
invariant-lines l = list_any is_of_state (lines_of l.script) ≡ list_any is_of_state (lines_of l.rest)

abbrev pub decreases-lines : goal.decreases-lines
decreases-lines l = length l.rest
