use Rattle.std.proofs.Common.{◌≡◌, drop}
use Rattle.text_core.specs.Lines.{lines_of}
use Rattle.room_trace.proofs.room.after_lines.Given as goal

-- what is left to drop of the rest
abbrev pub invariant-lines : goal.invariant-lines
invariant-lines l = drop l.left (lines_of l.rest) ≡ drop l.count (lines_of l.text)

abbrev pub decreases-lines : goal.decreases-lines
decreases-lines l = l.left
