use Rattle.std.proofs.Common.{◌≡◌, Ok, subst}
use Rattle.capture_core.specs.Edges.{Captured}
use Rattle.capture_forms.specs.Captures.{capture_in}
use Rattle.capture_forms.specs.declared.form.CaptureForm.{CaptureForm}
use Rattle.program_captures.proofs.CaptureLemmas.{same_capture}
use Rattle.program_captures.proofs.compared.first_of.Goals as goal

pub returns : goal.returns
returns c =
    let kept : Captured = c.in_ok-kept.kept in
    let whole : Captured = c.in_ok-whole.whole in
    let read = subst (λ (form : CaptureForm). capture_in form c.args.signal.now c.args.input.now ≡ Ok whole) c.form_of.ensures c.in_ok-whole.ensures in
    (whole, read, same_capture kept _ _ c.in_ok-kept.ensures.edges c.in_ok-kept.ensures.end)
