use Rattle.std.proofs.Common.{◌≡◌, ◌+◌, ◌≤◌, length}
use Rattle.text_core.specs.Lines.{lines_of}
use Rattle.expect_run.specs.Report.{report_as}
use Rattle.audit_expect.specs.Wanted.{with_wanted_lines}
use Rattle.audit_expect.proofs.remarks.add_lines.Given as goal

-- the tests of the lines before, and those of the lines that are left
abbrev pub invariant-lines : goal.invariant-lines
invariant-lines l = record {
  same : with_wanted_lines l.form l.remarks (report_as l.draft) l.number (lines_of l.rest) ≡ with_wanted_lines l.form l.remarks (report_as l.fn.draft) 1 (lines_of l.text);
  room : l.number + length l.rest ≤ length l.text + 1;
}

abbrev pub decreases-lines : goal.decreases-lines
decreases-lines l = length l.rest
