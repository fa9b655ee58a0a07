use Rattle.std.proofs.Common.{◌≡◌, ◌+◌, ◌++◌, ◌≤◌, length, map}
use Rattle.text_core.specs.Lines.{lines_of}
use Rattle.expect_judge.specs.Told.{event_as}
use Rattle.audit_expect.specs.Marks.{marks, marks_from}
use Rattle.audit_expect.proofs.marks.marks.Given as goal

-- those of the lines before, and of those that are left
abbrev pub invariant-lines : goal.invariant-lines
invariant-lines l = record {
  same : map event_as l.events.items ++ marks_from l.number (lines_of l.rest) ≡ marks l.expectations;
  room : l.number + length l.rest ≤ length l.expectations + 1;
}

abbrev pub decreases-lines : goal.decreases-lines
decreases-lines l = length l.rest
