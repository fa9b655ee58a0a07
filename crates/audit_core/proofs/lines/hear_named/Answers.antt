use Rattle.std.proofs.Common.{ap, sym}
use Rattle.std.specs.Option.{option_copied}
use Rattle.audit_core.specs.Lines.{named_lines}
use Rattle.audit_core.proofs.Writing.{heard_as}
use Rattle.audit_core.proofs.lines.hear_named.Goals as goal

pub returns : goal.returns
returns g c = heard_as g.H.LineHearer.hears c.args.out.now c.word.new.self _ _ (ap (λ o. named_lines (option_copied o)) (sym c.in-Some.is)) c.word.ensures
