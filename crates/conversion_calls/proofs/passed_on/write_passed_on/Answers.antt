use Rattle.std.proofs.Common.{Result, IfOk, subst}
use Rattle.edid_base.specs.declared.base.Base.{Base}
use Rattle.conversion_calls.specs.Passing.{IsPassedOnIn}
use Rattle.conversion_calls.specs.declared.passing.PassOnError.{PassOnError}
use Rattle.conversion_calls.proofs.Parts.{same_form}
use Rattle.conversion_calls.proofs.passed_on.write_passed_on.Goals as goal

pub returns-in-Ok-write_in-clause-answers : goal.returns-in-Ok-write_in-clause-answers
returns-in-Ok-write_in-clause-answers g c =
    let P : Result Base PassOnError → Type 0 = λ r. IfOk r (λ base. IsPassedOnIn c.args.bytes.now c.args.passing base c.pass_on.new.extensions.items) in
    let passed = subst P c.in-Ok.is c.pass_on.ensures.passed in
    let same = same_form c.args.form c.in-Ok.base c.pass_on.new.extensions.items passed.0 passed.1 passed.2 in
    let written = rw same at c.in-Ok-write_in.ensures in
    (passed.0, passed.3, written.0, written.1)

pub returns-in-Err-write_in-clause-answers : goal.returns-in-Err-write_in-clause-answers
returns-in-Err-write_in-clause-answers g c =
    let P : Result Base PassOnError → Type 0 = λ r. IfOk r (λ base. IsPassedOnIn c.args.bytes.now c.args.passing base c.pass_on.new.extensions.items) in
    let passed = subst P c.in-Ok.is c.pass_on.ensures.passed in
    let same = same_form c.args.form c.in-Ok.base c.pass_on.new.extensions.items passed.0 passed.1 passed.2 in
    (passed.0, passed.3, rw same at c.in-Err-write_in.ensures)
