use Rattle.std.proofs.Common.{◌≡◌, Result, IfOk, ap, ◌∙◌, subst}
use Rattle.edid_base.specs.declared.base.Base.{Base}
use Rattle.rules_check.specs.Findings.{findings}
use Rattle.rules_check.specs.Text.{some_failure}
use Rattle.rules_check.specs.declared.rule.Origin.TheVariants.{Port}
use Rattle.conversion_calls.specs.Passing.{IsPassedOnIn}
use Rattle.conversion_calls.specs.declared.passing.PassOnError.{PassOnError}
use Rattle.conversion_calls.proofs.Parts.{same_findings}
use Rattle.conversion_calls.proofs.passed_on.check_passed_on.Goals as goal

pub returns-in-Ok-write_findings-clause-answers : goal.returns-in-Ok-write_findings-clause-answers
returns-in-Ok-write_findings-clause-answers g c =
    let P : Result Base PassOnError → Type 0 = λ r. IfOk r (λ base. IsPassedOnIn c.args.bytes.now c.args.passing base c.pass_on.new.extensions.items) in
    let passed = subst P c.in-Ok.is c.pass_on.ensures.passed in
    let p = passed.0 in
    let parts = same_findings Port c.in-Ok.base c.pass_on.new.extensions.items p passed.1 passed.2 in
    let same : c.as_slice-in-Ok.result.now ≡ findings Port p.base p.extensions.items =
    c.as_slice-in-Ok.ensures.value ∙ c.check-found.ensures ∙ ap (λ xs. findings Port c.in-Ok.base xs) c.as_slice.ensures.value ∙ parts in
    let written = rw same at c.in-Ok-write_findings.ensures in
    let whole : c.as_slice-in-Ok-write_findings.result.now ≡ findings Port p.base p.extensions.items =
    c.as_slice-in-Ok-write_findings.ensures.value ∙ c.check-found.ensures ∙ ap (λ xs. findings Port c.in-Ok.base xs) c.as_slice.ensures.value ∙ parts in
    let fails : c.has_failure.result ≡ some_failure (findings Port p.base p.extensions.items) = c.has_failure.ensures ∙ ap some_failure whole in
    (p, passed.3, written.0, written.1, fails)

pub returns-in-Err-write_findings-clause-answers : goal.returns-in-Err-write_findings-clause-answers
returns-in-Err-write_findings-clause-answers g c =
    let P : Result Base PassOnError → Type 0 = λ r. IfOk r (λ base. IsPassedOnIn c.args.bytes.now c.args.passing base c.pass_on.new.extensions.items) in
    let passed = subst P c.in-Ok.is c.pass_on.ensures.passed in
    let p = passed.0 in
    let parts = same_findings Port c.in-Ok.base c.pass_on.new.extensions.items p passed.1 passed.2 in
    let same : c.as_slice-in-Ok.result.now ≡ findings Port p.base p.extensions.items =
    c.as_slice-in-Ok.ensures.value ∙ c.check-found.ensures ∙ ap (λ xs. findings Port c.in-Ok.base xs) c.as_slice.ensures.value ∙ parts in
    let written = rw same at c.in-Err-write_findings.ensures in
    (p, passed.3, written)
