use Rattle.std.proofs.Common.{◌≡◌, ◌+◌, ◌≤◌, length}
use Rattle.text_core.specs.Lines.{lines_of}
use Rattle.audit_expect.specs.Wanted.{wanted_faults}
use Rattle.audit_expect.proofs.wanted.wanted_fault_in.Given as goal

-- no line before is at fault
abbrev pub invariant-lines : goal.invariant-lines
invariant-lines l = record {
  same : wanted_faults 1 (lines_of l.text) ≡ wanted_faults l.number (lines_of l.rest);
  room : l.number + length l.rest ≤ length l.text + 1;
}

abbrev pub decreases-lines : goal.decreases-lines
decreases-lines l = length l.rest
