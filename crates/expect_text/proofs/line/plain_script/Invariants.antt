use Rattle.std.proofs.Common.{◌≡◌, ◌++◌, length}
use Rattle.std.specs.List.{flat_map}
use Rattle.text_core.specs.Lines.{lines_of}
use Rattle.expect_text.specs.Line.{plain_line, plain_script}
use Rattle.expect_text.proofs.line.plain_script.Given as goal

-- the lines so far, and those that are left
abbrev pub invariant-lines : goal.invariant-lines
invariant-lines l = l.text.items ++ flat_map plain_line (lines_of l.rest) ≡ plain_script l.script

abbrev pub decreases-lines : goal.decreases-lines
decreases-lines l = length l.rest
