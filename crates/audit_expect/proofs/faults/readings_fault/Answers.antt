use Rattle.std.proofs.Common.{ap, ◌∙◌}
use Rattle.text_core.specs.Lines.{lines_of}
use Rattle.audit_expect.specs.Faults.{earlier, kinds_from}
use Rattle.audit_expect.proofs.First.{first_is}
use Rattle.audit_expect.proofs.faults.readings_fault.Goals as goal

pub returns : goal.returns
returns c =
    let text = c.args.text.now in
    c.earlier.ensures ∙ ap (λ f. earlier f c.in_ok-fault.fault) c.kind_fault_in.ensures ∙ ap (earlier (kinds_from 1 (lines_of text))) c.in_ok-fault.ensures
    ∙ first_is text 1 (lines_of text)
