use Rattle.std.proofs.Common.{◌≡◌, length}
use Rattle.std.specs.List.{list_any}
use Rattle.text_core.specs.Lines.{lines_of}
use Rattle.expect_text.specs.Names.{has_name, has_names}
use Rattle.expect_text.proofs.names.has_names.Given as goal

-- no line before has a pattern with a name
abbrev pub invariant-lines : goal.invariant-lines
invariant-lines l = has_names l.script ≡ list_any has_name (lines_of l.rest)

abbrev pub decreases-lines : goal.decreases-lines
decreases-lines l = length l.rest
