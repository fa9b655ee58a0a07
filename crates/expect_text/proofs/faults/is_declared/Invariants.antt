use Rattle.std.proofs.Common.{◌≡◌, length}
use Rattle.std.specs.List.{list_any}
use Rattle.text_core.specs.Lines.{lines_of}
use Rattle.text_core.specs.Words.{words_of}
use Rattle.expect_text.specs.Faults.{declared_in, is_declared, is_named}
use Rattle.expect_text.proofs.faults.is_declared.Given as goal

-- no line before declares the device
abbrev pub invariant-lines : goal.invariant-lines
invariant-lines l = is_declared l.topology l.name ≡ list_any (λ line. is_named l.name (declared_in (words_of line))) (lines_of l.rest)

abbrev pub decreases-lines : goal.decreases-lines
decreases-lines l = length l.rest
