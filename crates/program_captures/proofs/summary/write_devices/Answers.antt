use Rattle.std.proofs.Common.{◌≡◌, ◌∙◌, List, OnOk, ap, false, refl, subst, sym, true}
use Rattle.std.specs.Io.KnownBytes.{Appends}
use Rattle.audit_report.specs.Report.{has_remarks, report_text}
use Rattle.line_reading.specs.Readings.{Listed}
use Rattle.line_reading.specs.Windows.{wider}
use Rattle.capture_monitor.specs.Watch.{captured_by}
use Rattle.program_captures.specs.Captures.{readings_at}
use Rattle.program_captures.specs.Summaries.{WritesDevices}
use Rattle.program_captures.proofs.CaptureLemmas.{readings_are}
use Rattle.program_captures.proofs.ShownLemmas.{on_ok}
use Rattle.program_captures.proofs.summary.write_devices.Goals as goal

pub returns : goal.returns
returns g c =
    let capture = c.args.capture.now in
    let old = g.W.Sink.contents c.args.out.now in
    let new = g.W.Sink.contents c.report_capture.new.out in
    let windows = c.wider-windows.result in
    let read : captured_by windows capture ≡ readings_at c.args.margin capture =
    readings_are c.args.margin windows capture (c.wider-windows.ensures.wider ∙ ap wider c.within_most.ensures.same) in
    let told = c.in_ok-remarked.ensures in
    let P : List Listed → Type 0 = λ xs. Appends old new (report_text c.args.written capture xs) in
    let Q : List Listed → Type 0 = λ xs. c.in_ok-remarked.remarked ≡ has_remarks capture xs in
    on_ok c.without_remark.result (c.args.strict ≡ true → c.in_ok-remarked.remarked ≡ false) (WritesDevices c.args.margin c.args.strict c.args.written capture old new)
    (λ none. (report_text c.args.written capture (readings_at c.args.margin capture), (refl, λ strict. sym (subst Q read told.2) ∙ none strict), subst P read told.0)) c.without_remark.ensures
