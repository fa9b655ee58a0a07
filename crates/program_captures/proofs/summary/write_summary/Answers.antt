use Rattle.std.proofs.Common.{◌≡◌, Ok, subst}
use Rattle.std.specs.Io.KnownBytes.{Appends}
use Rattle.capture_core.specs.Edges.{Captured}
use Rattle.capture_forms.specs.Captures.{capture_in}
use Rattle.capture_forms.specs.declared.form.CaptureForm.{CaptureForm}
use Rattle.program_captures.specs.Captures.{as_read}
use Rattle.program_captures.specs.Summaries.{Summarizes}
use Rattle.program_captures.proofs.CaptureLemmas.{same_capture}
use Rattle.program_captures.proofs.summary.write_summary.Goals as goal

pub returns : goal.returns
returns g c =
    let choice = c.args.choice in
    let old = g.W.Sink.contents c.args.out.now in
    let new = g.W.Sink.contents c.summarize.new.out in
    let kept : Captured = c.in_ok-kept.kept in
    let whole : Captured = c.in_ok-whole.whole in
    let same : kept ≡ as_read choice.inverted choice.scale choice.glitch whole = same_capture kept _ _ c.in_ok-kept.ensures.edges c.in_ok-kept.ensures.end in
    let P : Captured → Type 0 = λ x. Summarizes choice.summary choice.margin choice.strict choice.written x old new in
    let said = subst P same c.in_ok-summarize.ensures in
    let read = subst (λ (form : CaptureForm). capture_in form c.args.signal.now c.args.input.now ≡ Ok whole) c.form_of-form.ensures c.in_ok-whole.ensures in
    (said.0, (whole, read, said.1), said.2)
