use Rattle.std.proofs.Common.{ℕ, List, length}
use Rattle.text_core.specs.ByLine.{AreInOrder}
use Rattle.text_core.specs.Lines.{lines_of}
use Rattle.text_core.proofs.LineByLine.{Added}
use Rattle.text_core.proofs.by_line.add_lines.Given as goal

abbrev pub invariant-lines : goal.invariant-lines
invariant-lines g l = (texts : List ℕ) → AreInOrder (g.L.TextOfLine.is l.each) (lines_of l.text) texts → Added (g.L.TextOfLine.is l.each) texts l.rest l.fn.out l.out

abbrev pub decreases-lines : goal.decreases-lines
decreases-lines g l = length l.rest
