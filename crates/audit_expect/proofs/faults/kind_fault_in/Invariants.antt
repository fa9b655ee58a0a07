use Rattle.std.proofs.Common.{◌≡◌, ◌+◌, ◌≤◌, length}
use Rattle.text_core.specs.Lines.{lines_of}
use Rattle.audit_expect.specs.Faults.{kinds_from}
use Rattle.audit_expect.proofs.faults.kind_fault_in.Given as goal

-- no line before is at fault
abbrev pub invariant-lines : goal.invariant-lines
invariant-lines l = record {
  same : kinds_from 1 (lines_of l.text) ≡ kinds_from l.number (lines_of l.rest);
  room : l.number + length l.rest ≤ length l.text + 1;
}

abbrev pub decreases-lines : goal.decreases-lines
decreases-lines l = length l.rest
