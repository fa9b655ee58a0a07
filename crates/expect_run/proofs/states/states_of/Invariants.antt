use Rattle.std.proofs.Common.{length}
use Rattle.text_core.specs.Lines.{lines_of}
use Rattle.expect_run.specs.States.{said_in, shown_in}
use Rattle.expect_run.specs.States.StateView.{Below, Said}
use Rattle.expect_run.proofs.Stated.{Lead}
use Rattle.expect_run.proofs.states.states_of.Given as goal

-- with those of the lines that are left these are those of all lines
abbrev pub invariant-lines : goal.invariant-lines
invariant-lines l = record {
  said : Lead Said l.topology l.plain (lines_of l.script) (lines_of l.rest) (said_in l.states);
  shown : Lead (Below l.form) l.topology l.plain (lines_of l.script) (lines_of l.rest) (shown_in l.states);
}

abbrev pub decreases-lines : goal.decreases-lines
decreases-lines l = length l.rest
