use Rattle.std.proofs.Common.{map, ap, List, ◌++◌, ◌∙◌}
use Rattle.line_reading.specs.Windows.{standard}
use Rattle.capture_core.specs.Edges.{line_of_edges}
use Rattle.record_core.specs.declared.cell.Form.{Form}
use Rattle.capture_monitor.specs.Watch.{captured_by}
use Rattle.capture_monitor.proofs.ReadBy.{standard_readings}
use Rattle.audit_notes.specs.Lines.AuditLine.{Reading}
use Rattle.expect_judge.specs.Told.{kept_as}
use Rattle.expect_judge.specs.declared.kept.KeptRound.{KeptRound}
use Rattle.audit_expect.specs.Heard.{rounds_of}
use Rattle.audit_expect.specs.Marks.{listed_told}
use Rattle.audit_expect.proofs.HeardReadings.{all_heard}
use Rattle.audit_expect.proofs.readings.rounds_told.Goals as goal

pub returns : goal.returns
returns c =
    let capture = c.args.capture.now in
    ap (map kept_as) c.in_ok-rounds.ensures.1 ∙ (c.hear_readings.ensures.1 c.in_ok-rounds.ensures.0).1
    ∙ ap (λ (first : List KeptRound). map kept_as first ++ rounds_of c.none-readings.result.form (map Reading (captured_by standard capture))) c.none-readings.ensures.0
    ∙ ap (λ (form : Form). rounds_of form (map Reading (captured_by standard capture))) c.none-readings.ensures.1
    ∙ all_heard c.args.form (captured_by standard capture) ∙ ap (map (listed_told c.args.form)) (standard_readings (line_of_edges capture.edges) capture.end)
