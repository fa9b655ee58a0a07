use Rattle.std.proofs.Common.{subst, sym}
use Rattle.text_core.specs.Adds.{Adds}
use Rattle.text_core.proofs.Adding.{nothing}
use Rattle.audit_judged.specs.declared.endings.Said.{Said}
use Rattle.piece_audit.specs.Texts.{said_part}
use Rattle.piece_audit.proofs.texts.add_said_part.Goals as goal

pub returns-in-Nothing : goal.returns-in-Nothing
returns-in-Nothing g c = subst (λ (s : Said). Adds c.args.out.now c.args.out.now (said_part c.args.form c.args.slots.now s)) (sym c.in-Nothing.is) (nothing c.args.out.now)

pub returns-in-Allowed : goal.returns-in-Allowed
returns-in-Allowed g c = subst (λ (s : Said). Adds c.args.out.now c.add_cause.new.out (said_part c.args.form c.args.slots.now s)) (sym c.in-Allowed.is) c.add_cause.ensures

pub returns-in-Remarked : goal.returns-in-Remarked
returns-in-Remarked g c =
    subst (λ (s : Said). Adds c.args.out.now c.add_ending.new.out (said_part c.args.form c.args.slots.now s)) (sym c.in-Remarked.is) (rw c.ending_party.ensures at c.add_ending.ensures)
