use Rattle.std.proofs.Common.{◌==◌, ℕ, List, true, false, ap, subst}
use Rattle.text_core.specs.Adds.{Adds}
use Rattle.audit_notes.proofs.ByKind.{misfit_as, not_zero}
use Rattle.audit_notes.proofs.records.add_misfit.Goals as goal

pub returns-then-misfit-eq0 : goal.returns-then-misfit-eq0
returns-then-misfit-eq0 g c =
    subst (λ (text : List ℕ). Adds c.args.out.now c.add_start.new.out text)
    (misfit_as c.args.form c.misfit_kind-kind.result c.args.misfit true c.misfit_kind-kind.ensures (ap (λ (n : ℕ). n == 0) c.if-misfit-eq0.true)) c.add_start.ensures

pub returns-else-misfit-eq0 : goal.returns-else-misfit-eq0
returns-else-misfit-eq0 g c =
    subst (λ (text : List ℕ). Adds c.args.out.now c.add_bit.new.out text)
    (misfit_as c.args.form c.misfit_kind-kind.result c.args.misfit false c.misfit_kind-kind.ensures (not_zero c.args.misfit.slot c.if-misfit-eq0.false)) c.add_bit.ensures
