use Rattle.std.proofs.Common.{◌≡◌, ◌∷◌, [], ◌++◌, length}
use Rattle.std.specs.List.{flat_map}
use Rattle.text_core.specs.Lines.{lines_of}
use Rattle.expect_text.specs.Line.{cut_line, cut_script}
use Rattle.expect_text.proofs.line.cut_script.Given as goal

-- the lines so far, and those that are left
abbrev pub invariant-lines : goal.invariant-lines
invariant-lines l = l.text.items ++ flat_map (λ line. cut_line l.time line ++ 10 ∷ []) (lines_of l.rest) ≡ cut_script l.time l.script

abbrev pub decreases-lines : goal.decreases-lines
decreases-lines l = length l.rest
