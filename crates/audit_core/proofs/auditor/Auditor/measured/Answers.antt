use Rattle.std.proofs.Common.{◌≡◌, List, subst₂, ap, ◌∙◌}
use Rattle.line_wave.specs.declared.Edge.{Edge}
use Rattle.line_frames.specs.declared.Reading.{Reading}
use Rattle.line_reading.specs.Reports.{listed_as}
use Rattle.audit_widths.specs.declared.low.Low.{Low}
use Rattle.audit_core.specs.Audit.{drive_of, lows_of, tape_at}
use Rattle.audit_core.specs.Measured.{measured_by, measured_of}
use Rattle.audit_core.proofs.auditor.Auditor.measured.Goals as goal

pub returns : goal.returns
returns c =
    let heard = c.new-heard.result in
    subst₂ (λ (edges : List Edge) (reading : Reading). c.measured_by.result.items ≡ measured_of (tape_at edges c.args.self.now) (listed_as reading)) c.new-heard.ensures.edges c.new-heard.ensures.reading
    (c.measured_by.ensures
    ∙ ap (λ (lows : List Low). measured_by (tape_at heard.edges.now c.args.self.now) (listed_as heard.reading.now) lows (drive_of (listed_as heard.reading.now) heard.edges.now)) c.new-heard.ensures.heard.lows)
