use Rattle.std.proofs.Common.{refl}
use Rattle.audit_core.proofs.Writing.{heard_as}
use Rattle.audit_core.proofs.auditor.Auditor.hear_remarks.Goals as goal

pub returns : goal.returns
returns g c =
    let both = g.met.H.LineHearer.then in
    heard_as g.H.LineHearer.hears c.args.out.now c.hear_reading_widths.new.out _ _ (rw (c.deref.ensures.0, c.requires.frame, c.requires.lows) refl)
    (both c.args.out.now c.hear_frame.new.out c.hear_reading_widths.new.out _ _
    (both c.args.out.now c.hear_times.new.out c.hear_frame.new.out _ _
    (both c.args.out.now c.hear_read.new.out c.hear_times.new.out _ _ c.hear_read.ensures c.hear_times.ensures) c.hear_frame.ensures) c.hear_reading_widths.ensures)
