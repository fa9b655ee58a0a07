use Rattle.std.proofs.Common.{◌∙◌, ℕ, ◌||◌, List, ap, subst, rules}
use Rattle.text_core.specs.Adds.{Adds}
use Rattle.text_core.proofs.Adding.{text_ended}
use Rattle.text_core.proofs.Counting.{all_of, front_of}
use Rattle.capture_monitor.specs.Watch.{captured_by}
use Rattle.audit_contents.specs.Contents.{has_fault}
use Rattle.audit_report.specs.Report.{Whole, report_text}
use Rattle.audit_report.specs.Texts.{rows_text}
use Rattle.audit_report.proofs.report.report_capture.Goals as goal

pub returns-in-Ok : goal.returns-in-Ok
returns-in-Ok g c =
    let text = report_text c.args.form c.args.capture.now (captured_by c.args.windows c.args.capture.now) in
    let same = ap (λ (w : Whole). rows_text c.args.form w.contents 0 w.rows) c.count_capture-counted.ensures in
    let written =
    all_of _ _ _ _ text _ _ c.in-Ok.is
    (text_ended g.S.Sink.contents g.S.Sink.is_stuck c.args.out.now _ c.into_sink-below.result.now _ c.into_sink-below.result.ghost_name c.new-text.result c.add_rows.new.out text c.written-written.result
    c.new-text.ensures (subst (λ (t : List ℕ). Adds c.new-text.result c.add_rows.new.out t) same c.add_rows.ensures) c.written-written.ensures.text
    c.into_sink-below.ensures.loan c.into_sink-below.ensures.known c.into_sink-below.ensures.stuck (search rules)) in
    (written.0, written.1, c.has_remarks-remarked.ensures ∙ ap (λ (w : Whole). w.remarked || has_fault w.contents) c.count_capture-counted.ensures)

pub returns-in-Err : goal.returns-in-Err
returns-in-Err g c =
    let text = report_text c.args.form c.args.capture.now (captured_by c.args.windows c.args.capture.now) in
    let same = ap (λ (w : Whole). rows_text c.args.form w.contents 0 w.rows) c.count_capture-counted.ensures in
    front_of _ _ _ _ text _ _ c.in-Err.is
    (text_ended g.S.Sink.contents g.S.Sink.is_stuck c.args.out.now _ c.into_sink-below.result.now _ c.into_sink-below.result.ghost_name c.new-text.result c.add_rows.new.out text c.written-written.result
    c.new-text.ensures (subst (λ (t : List ℕ). Adds c.new-text.result c.add_rows.new.out t) same c.add_rows.ensures) c.written-written.ensures.text
    c.into_sink-below.ensures.loan c.into_sink-below.ensures.known c.into_sink-below.ensures.stuck (search rules))
