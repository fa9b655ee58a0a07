use Rattle.std.proofs.Common.{◌+◌, ◌≤◌, length}
use Rattle.message_text.proofs.FrameLineLemmas.{Checked}
use Rattle.message_text.proofs.frame_lines.check_lines.Given as goal

abbrev pub invariant-loop-current : goal.invariant-loop-current
invariant-loop-current l = record {
  checked : Checked l.text l.rest l.line;
  room : l.line + length l.rest ≤ length l.text + 1;
}

abbrev pub decreases-loop-current : goal.decreases-loop-current
decreases-loop-current l = length l.rest
