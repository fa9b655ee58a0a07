use Rattle.std.proofs.Common.{Bool, ap, sym, ◌∙◌}
use Rattle.audit_widths.specs.Spreads.{no_widths, with_slots}
use Rattle.audit_core.specs.Lines.{timing_lines, widths_lines}
use Rattle.audit_core.proofs.Writing.{heard_as}
use Rattle.audit_core.proofs.auditor.hear_reading_widths.Goals as goal

pub returns : goal.returns
returns g c =
    let heard = c.args.heard.now in
    heard_as g.H.LineHearer.hears c.args.out.now c.hear_widths.new.out _ _
    (ap widths_lines c.widths.ensures
    ∙ ap (λ (b : Bool). timing_lines b (with_slots heard.reading.now.ending heard.reading.now.bits.items 0 heard.lows.now.items no_widths)) (sym c.if-not-timing.false))
    c.hear_widths.ensures
