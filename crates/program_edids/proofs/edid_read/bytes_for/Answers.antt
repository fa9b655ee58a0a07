use Rattle.std.proofs.Common.{ℕ, List, IfOk, subst}
use Rattle.program_edids.specs.Edids.{IsGiven}
use Rattle.program_edids.specs.Framed.{IsFor, IsReadAs}
use Rattle.program_edids.proofs.SoundLemmas.{if_ok}
use Rattle.program_edids.proofs.edid_read.bytes_for.Goals as goal

pub returns : goal.returns
returns c =
    let given = c.in_ok-given.given.items in
    let bytes = c.in_ok-bytes.bytes.items in
    let P : List ℕ → Type 0 = λ b. IfOk c.given_to.result (λ own. IsGiven c.args.place b own.items) in
    let Q : List ℕ → Type 0 = λ b. IsReadAs c.args.reading b bytes in
    if_ok c.given_to.result (λ own. IsGiven c.args.place bytes own.items) (λ own. IsFor c.args.source c.args.reading c.args.place c.args.input.now own.items)
    (λ own there. (given, bytes, c.in_ok-given.ensures, subst Q c.as_slice.ensures.value c.in_ok-bytes.ensures, there))
    (subst P c.as_slice-2.ensures.value c.given_to.ensures)
