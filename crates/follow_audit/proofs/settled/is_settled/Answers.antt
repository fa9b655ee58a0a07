use Rattle.std.proofs.Common.{◌≡◌, ℕ, Bool, true, false, ◌&&◌, ap, sym, ◌∙◌}
use Rattle.audit_widths.specs.Lows.{gone_to}
use Rattle.audit_core.specs.Audit.{falls_until}
use Rattle.follow_audit.specs.Settled.{has_next, is_drive_known}
use Rattle.follow_audit.proofs.settled.is_settled.Goals as goal

pub returns-then-has_next : goal.returns-then-has_next
returns-then-has_next c =
    let x = c.args.reading.now in
    let next : has_next (falls_until x.ending x.at) c.args.edges.now ≡ true = ap (λ (u : ℕ). has_next u c.args.edges.now) (sym c.falls_until.ensures) ∙ sym c.has_next.ensures ∙ c.if-has_next.true in
    c.is_drive_known.ensures ∙ ap (is_drive_known x.ending) (c.edges.ensures ∙ c.edges_from.ensures) ∙ ap (λ (b : Bool). b && is_drive_known x.ending (gone_to x.at c.args.edges.now)) (sym next)

pub returns-else-has_next : goal.returns-else-has_next
returns-else-has_next c =
    let x = c.args.reading.now in
    let next : has_next (falls_until x.ending x.at) c.args.edges.now ≡ false = ap (λ (u : ℕ). has_next u c.args.edges.now) (sym c.falls_until.ensures) ∙ sym c.has_next.ensures ∙ c.if-has_next.false in
    c.if-has_next.false ∙ ap (λ (b : Bool). b && is_drive_known x.ending (gone_to x.at c.args.edges.now)) (sym next)
