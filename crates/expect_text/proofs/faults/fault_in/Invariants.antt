use Rattle.std.proofs.Common.{◌≡◌, ◌+◌, ◌≤◌, length}
use Rattle.text_core.specs.Lines.{lines_of}
use Rattle.expect_text.specs.Senders.{judged_as}
use Rattle.expect_text.specs.Faults.{faults_from}
use Rattle.expect_text.proofs.faults.fault_in.Given as goal

-- no line before is at fault
abbrev pub invariant-lines : goal.invariant-lines
invariant-lines l = record {
  same : faults_from (judged_as l.who) l.topology l.labels.script.now 1 (lines_of l.labels.script.now) ≡ faults_from (judged_as l.who) l.topology l.labels.script.now l.number (lines_of l.rest);
  room : l.number + length l.rest ≤ length l.labels.script.now + 1;
}

abbrev pub decreases-lines : goal.decreases-lines
decreases-lines l = length l.rest
