use Rattle.std.proofs.Common.{List, ℕ, subst}
use Rattle.text_core.specs.Adds.{Adds}
use Rattle.audit_notes.specs.Notes.{failure_cells}
use Rattle.audit_notes.proofs.ByKind.{attempt_as}
use Rattle.audit_notes.proofs.records.add_attempt.Goals as goal

pub returns : goal.returns
returns g c =
    subst (λ (text : List ℕ). Adds c.args.out.now c.add_failure.new.out text) (attempt_as c.args.form c.attempt_kind.result c.args.failure (failure_cells c.args.failure) c.attempt_kind.ensures) c.add_failure.ensures
