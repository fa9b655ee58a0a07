use Rattle.std.proofs.Common.{◌≡◌, IfOk, subst, sym}
use Rattle.edid_core.specs.Bytes.{edid_bytes}
use Rattle.edid_core.specs.declared.edid.Edid.{Edid}
use Rattle.conversion_calls.specs.Passing.{IsPassedOn}
use Rattle.conversion_calls.specs.declared.passing.Passing.{Passing}
use Rattle.program_edids.specs.Edids.{IsGiven}
use Rattle.cli_choice.specs.declared.choice.Recipient.{Recipient}
use Rattle.program_edids.proofs.edid.given_to.Goals as goal

pub returns-in-At : goal.returns-in-At
returns-in-At c =
    let P : Passing → Type 0 = λ x. IfOk c.passed_bytes.result (λ given. (e : Edid) × IsPassedOn c.args.bytes.now x e × (given.items ≡ edid_bytes e)) in
    let Q : Recipient → Type 0 = λ p. IfOk c.passed_bytes.result (λ given. IsGiven p c.args.bytes.now given.items) in
    subst Q (sym c.in-At.is) (subst P c.at.ensures c.passed_bytes.ensures)

pub returns-in-Port : goal.returns-in-Port
returns-in-Port c =
    let Q : Recipient → Type 0 = λ p. IfOk c.given_in_port.result (λ given. IsGiven p c.args.bytes.now given.items) in
    subst Q (sym c.in-Port.is) c.given_in_port.ensures
