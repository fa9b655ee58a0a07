use Rattle.std.proofs.Common.{Option, subst, sym}
use Rattle.text_core.specs.Adds.{Adds}
use Rattle.text_core.proofs.Adding.{nothing}
use Rattle.audit_judged.specs.declared.widths.WidthRemark.{WidthRemark}
use Rattle.piece_audit.specs.Texts.{width_part}
use Rattle.piece_audit.proofs.texts.add_width_part.Goals as goal

pub returns-in-None : goal.returns-in-None
returns-in-None g c = subst (λ (o : Option WidthRemark). Adds c.args.out.now c.args.out.now (width_part c.args.form o)) (sym c.in-None.is) (nothing c.args.out.now)

pub returns-in-Some : goal.returns-in-Some
returns-in-Some g c = subst (λ (o : Option WidthRemark). Adds c.args.out.now c.add_width.new.out (width_part c.args.form o)) (sym c.in-Some.is) c.add_width.ensures
