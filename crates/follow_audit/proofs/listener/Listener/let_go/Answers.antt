use Rattle.std.proofs.Common.{ap, refl, ◌∙◌}
use Rattle.audit_widths.specs.Lows.{gone_to}
use Rattle.follow_audit.proofs.Audited.{takes_less, takes_none}
use Rattle.follow_audit.proofs.listener.Listener.let_go.Goals as goal

pub returns-then-not-keeps_many : goal.returns-then-not-keeps_many
returns-then-not-keeps_many c = takes_none _ _ refl

pub returns : goal.returns
returns c =
    takes_less c.args.self.now _ refl refl refl refl (c.in_ok-window.ensures.items ∙ c.edges.ensures ∙ c.edges_from.ensures ∙ ap (gone_to c.args.self.now.from) c.deref.ensures.value)
