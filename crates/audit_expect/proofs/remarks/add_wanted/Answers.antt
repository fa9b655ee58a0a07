use Rattle.text_core.specs.Lines.{lines_of}
use Rattle.expect_run.specs.Report.{report_as}
use Rattle.expect_remarks.specs.Kept.{audit_remarks}
use Rattle.audit_expect.proofs.Unasked.{none_asked}
use Rattle.audit_expect.proofs.remarks.add_wanted.Goals as goal

pub returns-then-not-is_any_wanted : goal.returns-then-not-is_any_wanted
returns-then-not-is_any_wanted c =
    none_asked c.is_any_wanted.result c.args.form (audit_remarks c.args.capture.now) (report_as c.args.draft.now) (lines_of c.args.text.now) c.is_any_wanted.ensures c.if-not-is_any_wanted.true
