use Rattle.std.proofs.Common.{◌≡◌, ◌+◌, ◌≤◌, length}
use Rattle.text_core.specs.Lines.{lines_of}
use Rattle.message_hex.specs.Lines.{first_fault}
use Rattle.message_hex.proofs.lines.check_lines.Given as goal

-- no line before is at fault
abbrev pub invariant-lines : goal.invariant-lines
invariant-lines l = record {
  same : first_fault 1 (lines_of l.text) ≡ first_fault l.line (lines_of l.rest);
  room : l.line + length l.rest ≤ length l.text + 1;
}

abbrev pub decreases-lines : goal.decreases-lines
decreases-lines l = length l.rest
