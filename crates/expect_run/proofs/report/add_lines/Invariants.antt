use Rattle.std.proofs.Common.{◌≡◌, ◌+◌, ◌≤◌, length, map}
use Rattle.text_core.specs.Lines.{lines_of}
use Rattle.expect_judge.specs.Told.{round_as}
use Rattle.expect_judge.specs.Judged.{finding_as}
use Rattle.expect_run.specs.Report.{report_as, with_findings}
use Rattle.expect_run.proofs.report.add_lines.Given as goal

-- the tests of the lines above, and then of those that are left
abbrev pub invariant-lines : goal.invariant-lines
invariant-lines l = record {
  same : with_findings l.form (map round_as l.rounds.rounds.now) (report_as l.draft) l.number (lines_of l.rest) (map finding_as l.left)
      ≡ with_findings l.form (map round_as l.rounds.rounds.now) (report_as l.fn.draft) 1 (lines_of l.script) (map finding_as l.found);
  room : l.number + length l.rest ≤ length l.script + 1;
}

abbrev pub decreases-lines : goal.decreases-lines
decreases-lines l = length l.rest
