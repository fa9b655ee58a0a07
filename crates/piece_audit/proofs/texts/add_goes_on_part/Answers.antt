use Rattle.std.proofs.Common.{ℕ, Option, subst, sym}
use Rattle.text_core.specs.Adds.{Adds}
use Rattle.text_core.proofs.Adding.{nothing}
use Rattle.piece_audit.specs.Texts.{goes_on_part}
use Rattle.piece_audit.proofs.texts.add_goes_on_part.Goals as goal

pub returns-in-None : goal.returns-in-None
returns-in-None g c = subst (λ (o : Option ℕ). Adds c.args.out.now c.args.out.now (goes_on_part c.args.form c.args.slots.now o)) (sym c.in-None.is) (nothing c.args.out.now)

pub returns-in-Some : goal.returns-in-Some
returns-in-Some g c =
    subst (λ (o : Option ℕ). Adds c.args.out.now c.add_goes_on.new.out (goes_on_part c.args.form c.args.slots.now o)) (sym c.in-Some.is) (rw c.initiator_of.ensures at c.add_goes_on.ensures)
