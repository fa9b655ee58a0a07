use Rattle.std.proofs.Common.{◌≡◌, List, ap, refl, sym, subst₂, ◌∙◌}
use Rattle.line_reading.specs.Readings.{Listed}
use Rattle.line_reading.specs.Windows.{wider}
use Rattle.capture_monitor.specs.Watch.{captured_by}
use Rattle.capture_core.specs.Edges.{Captured}
use Rattle.audit_notes.specs.Folded.{folded_if}
use Rattle.program_captures.specs.Captures.{AreLinesOf, as_read, readings_at}
use Rattle.audit_notes.specs.Lines.{lines_text}
use Rattle.program_captures.proofs.CaptureLemmas.{readings_are, same_capture}
use Rattle.program_captures.proofs.capture.listen.Goals as goal

pub returns : goal.returns
returns g c =
    let kept : Captured = c.in_ok-kept.kept in
    let whole : Captured = c.in_ok-whole.whole in
    let windows = c.wider-windows.result in
    let read_so : Captured = as_read c.args.hearing.inverted c.args.hearing.scale c.args.hearing.glitch whole in
    let same : kept ≡ read_so = same_capture kept _ _ c.in_ok-kept.ensures.edges c.in_ok-kept.ensures.end in
    let read : captured_by windows kept ≡ readings_at c.args.hearing.margin read_so =
    readings_are c.args.hearing.margin windows kept (c.wider-windows.ensures.wider ∙ ap wider c.within_most.ensures.same) ∙ ap (readings_at c.args.hearing.margin) same in
    let reported = c.in_ok-remarked.ensures in (
      lines_text c.args.hearing.written (folded_if c.args.hearing.folds reported.0),
      (
        reported.0,
        (
          whole,
          c.in_ok-whole.ensures,
          (subst₂ (λ (x : Captured) (xs : List Listed). AreLinesOf c.args.report x xs reported.0) same read reported.1, λ strict. sym reported.3 ∙ c.in_ok-without_remark.ensures strict),
        ),
        refl,
      ),
      reported.2,
    )
