use Rattle.std.proofs.Common.{ap}
use Rattle.conversion_calls.specs.Form.{form_text}
use Rattle.program_edids.proofs.edid.write_passed.Goals as goal

pub returns : goal.returns
returns g c =
    let reported = c.in_ok-write_passed_on.ensures.answers in
    (form_text c.form_of.result reported.0, (reported.0, reported.1, ap (λ f. form_text f reported.0) c.form_of.ensures), reported.2)
