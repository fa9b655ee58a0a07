use Rattle.std.proofs.Common.{◌≡◌, Ok, refl, subst}
use Rattle.std.specs.Io.KnownBytes.{Appends}
use Rattle.capture_core.specs.Edges.{Captured}
use Rattle.capture_forms.specs.Captures.{capture_in}
use Rattle.capture_forms.specs.declared.form.CaptureForm.{CaptureForm}
use Rattle.program_captures.specs.Captures.{as_read}
use Rattle.program_captures.specs.Edges.{edges_text}
use Rattle.program_captures.proofs.CaptureLemmas.{same_capture}
use Rattle.program_captures.proofs.edges.write_edges.Goals as goal

pub returns : goal.returns
returns g c =
    let kept : Captured = c.in_ok-kept.kept in
    let whole : Captured = c.in_ok-whole.whole in
    let read : Captured = as_read c.args.inverted c.args.scale c.args.glitch whole in
    let same : kept ≡ read = same_capture kept _ _ c.in_ok-kept.ensures.edges c.in_ok-kept.ensures.end in (
      edges_text read.edges read.end,
      (whole, subst (λ (form : CaptureForm). capture_in form c.args.signal.now c.args.input.now ≡ Ok whole) c.form_of.ensures c.in_ok-whole.ensures, refl),
      subst (λ (x : Captured). Appends (g.W.Sink.contents c.args.out.now) (g.W.Sink.contents c.write_edges_of.new.out) (edges_text x.edges x.end)) same c.in_ok-write_edges_of.ensures,
    )
