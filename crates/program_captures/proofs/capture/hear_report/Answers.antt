use Rattle.std.proofs.Common.{◌≡◌, List, false, map, refl, subst, sym}
use Rattle.capture_monitor.specs.Watch.{captured_by}
use Rattle.cli_choice.specs.declared.choice.CaptureReport.{CaptureReport}
use Rattle.audit_notes.specs.Lines.{AuditLine}
use Rattle.audit_notes.specs.Lines.AuditLine.{Reading}
use Rattle.audit_core.specs.Audit.{audit_lines}
use Rattle.capture_join.specs.Joined.{joined_lines}
use Rattle.program_captures.specs.Captures.{AreLinesOf}
use Rattle.program_captures.proofs.capture.hear_report.Goals as goal

pub returns-in-Readings : goal.returns-in-Readings
returns-in-Readings g c =
    let xs = captured_by c.args.windows c.args.capture.now in
    let P : CaptureReport → Type 0 = λ r. (lines : List AuditLine) × AreLinesOf r c.args.capture.now xs lines × g.H.LineHearer.hears c.args.hearer.now lines c.hear_readings.new.out in
    subst P (sym c.in-Readings.is) (map Reading xs, refl, c.hear_readings.ensures)

pub returns-in-FromIdle : goal.returns-in-FromIdle
returns-in-FromIdle g c =
    let xs = captured_by c.args.windows c.args.capture.now in
    let heard = c.hear_from_idle.ensures in
    let P : CaptureReport → Type 0 = λ r. (lines : List AuditLine) × AreLinesOf r c.args.capture.now xs lines × g.H.LineHearer.hears c.args.hearer.now lines c.hear_from_idle.new.out in
    subst P (sym c.in-FromIdle.is) (joined_lines heard.0 false xs, (heard.0, heard.1, refl), heard.2)

pub returns-in-Audit : goal.returns-in-Audit
returns-in-Audit g c =
    let xs = captured_by c.args.windows c.args.capture.now in
    let P : CaptureReport → Type 0 = λ r. (lines : List AuditLine) × AreLinesOf r c.args.capture.now xs lines × g.H.LineHearer.hears c.args.hearer.now lines c.hear_audit.new.out in
    subst P (sym c.in-Audit.is) (audit_lines c.in-Audit.timing c.args.capture.now xs, refl, c.hear_audit.ensures)
