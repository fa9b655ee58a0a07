use Rattle.std.proofs.Common.{◌∙◌, refl, sym}
use Rattle.program_captures.proofs.CaptureLemmas.{no_remark, of_remark}
use Rattle.program_captures.proofs.following.end_audit.Goals as goal

pub returns-then-fails-clause-stops : goal.returns-then-fails-clause-stops
returns-then-fails-clause-stops c = of_remark c.args.strict c.args.remarked _ refl (sym c.fails.ensures ∙ c.if-fails.true)

pub returns-clause-done : goal.returns-clause-done
returns-clause-done c = λ strict. no_remark c.args.strict c.args.remarked (sym c.fails.ensures ∙ c.if-fails.false) strict
