use Rattle.std.proofs.Common.{ℕ, ap, ◌∙◌}
use Rattle.audit_widths.specs.Lows.{lows_before}
use Rattle.audit_core.proofs.heard.lows_of.Goals as goal

pub returns : goal.returns
returns c = c.lows_before.ensures ∙ ap (λ (u : ℕ). lows_before u c.args.edges.now) c.falls_until.ensures
