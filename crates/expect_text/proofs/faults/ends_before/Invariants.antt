use Rattle.std.proofs.Common.{◌≡◌, length}
use Rattle.std.specs.List.{list_any}
use Rattle.text_core.specs.Lines.{lines_of}
use Rattle.text_core.specs.Words.{words_of}
use Rattle.expect_text.specs.Line.{unlabelled_words}
use Rattle.expect_text.specs.Faults.{end_in, ends_before, is_past}
use Rattle.expect_text.proofs.faults.ends_before.Given as goal

-- no line before is an end before the time
abbrev pub invariant-lines : goal.invariant-lines
invariant-lines l = ends_before l.script l.time ≡ list_any (λ line. is_past l.time (end_in (unlabelled_words (words_of line)))) (lines_of l.rest)

abbrev pub decreases-lines : goal.decreases-lines
decreases-lines l = length l.rest
