use Rattle.std.proofs.Common.{OnOk, subst}
use Rattle.capture_forms.specs.declared.form.CaptureForm.{CaptureForm}
use Rattle.program_captures.specs.Captures.{Shown, report_of}
use Rattle.cli_choice.specs.declared.choice.CaptureReport.{CaptureReport}
use Rattle.program_captures.proofs.capture.show.Goals as goal

pub returns : goal.returns
returns g c =
    let P : CaptureForm → CaptureReport → Type 0 = λ f r. OnOk c.listen.result (Shown c.args.written c.args.folds f c.args.signal.now c.args.inverted c.args.scale c.args.glitch c.args.margin r c.args.input.now (g.W.Sink.contents c.args.out.now) (g.W.Sink.contents c.listen.new.out)) in
    subst (λ f. P f (report_of c.args.report f)) c.form_of-form.ensures (subst (P c.form_of-form.result) c.report_of-report.ensures c.listen.ensures)
