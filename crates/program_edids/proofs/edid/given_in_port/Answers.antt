use Rattle.std.proofs.Common.{◌≡◌, IfOk, subst, sym}
use Rattle.edid_core.specs.Bytes.{edid_bytes}
use Rattle.edid_core.specs.declared.edid.Edid.{Edid}
use Rattle.conversion_calls.specs.Passing.{IsPassedOn}
use Rattle.conversion_calls.specs.declared.passing.Passing.{Passing}
use Rattle.program_edids.specs.Edids.{IsGiven, IsSpokenIn}
use Rattle.cli_choice.specs.declared.choice.Recipient.TheVariants.{Port}
use Rattle.cli_choice.specs.declared.choice.Sound.{Sound}
use Rattle.cli_choice.specs.declared.choice.Sound.TheVariants.{Spoken}
use Rattle.program_edids.proofs.SoundLemmas.{if_ok, spoken_given}
use Rattle.program_edids.proofs.edid.given_in_port.Goals as goal

pub returns-in-Kept : goal.returns-in-Kept
returns-in-Kept c =
    let P : Passing → Type 0 = λ x. IfOk c.passed_bytes.result (λ given. (e : Edid) × IsPassedOn c.args.bytes.now x e × (given.items ≡ edid_bytes e)) in
    let Q : Sound → Type 0 = λ s. IfOk c.passed_bytes.result (λ given. IsGiven (Port c.args.port s) c.args.bytes.now given.items) in
    subst Q (sym c.in-Kept.is) (subst P c.in_port.ensures c.passed_bytes.ensures)

pub returns-in-Amplified : goal.returns-in-Amplified
returns-in-Amplified c =
    let P : Passing → Type 0 = λ x. IfOk c.passed_bytes-in-Amplified.result (λ given. (e : Edid) × IsPassedOn c.args.bytes.now x e × (given.items ≡ edid_bytes e)) in
    let Q : Sound → Type 0 = λ s. IfOk c.passed_bytes-in-Amplified.result (λ given. IsGiven (Port c.args.port s) c.args.bytes.now given.items) in
    subst Q (sym c.in-Amplified.is) (subst P c.in_port-in-Amplified.ensures c.passed_bytes-in-Amplified.ensures)

pub returns-in-Spoken : goal.returns-in-Spoken
returns-in-Spoken c =
    let Q : Sound → Type 0 = λ s. IfOk c.spoken_bytes.result (λ given. IsGiven (Port c.args.port s) c.args.bytes.now given.items) in
    subst Q (sym c.in-Spoken.is)
    (if_ok c.spoken_bytes.result (λ given. IsSpokenIn c.args.port c.args.bytes.now given.items) (λ given. IsGiven (Port c.args.port Spoken) c.args.bytes.now given.items)
    (λ given. spoken_given c.args.port c.args.bytes.now given.items) c.spoken_bytes.ensures)
