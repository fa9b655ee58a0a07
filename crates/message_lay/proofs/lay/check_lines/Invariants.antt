use Rattle.std.proofs.Common.{◌+◌, ◌≤◌, length}
use Rattle.message_lay.proofs.Checking.{Checked}
use Rattle.message_lay.proofs.lay.check_lines.Given as goal

abbrev pub invariant-lines : goal.invariant-lines
invariant-lines l = record {
  checked : Checked l.text l.rest l.line l.free;
  room : l.line + length l.rest ≤ length l.text + 1;
}

abbrev pub decreases-lines : goal.decreases-lines
decreases-lines l = length l.rest
