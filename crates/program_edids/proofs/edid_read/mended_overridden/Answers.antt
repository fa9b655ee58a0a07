use Rattle.std.proofs.Common.{◌≡◌, ℕ, List, Ok, IfOk, subst}
use Rattle.edid_as_source.specs.Count.{counted}
use Rattle.cli_choice.specs.declared.choice.EdidReading.TheVariants.{MendedOverridden}
use Rattle.program_edids.specs.Framed.{IsReadAs}
use Rattle.program_edids.proofs.SoundLemmas.{if_ok}
use Rattle.program_edids.proofs.edid_read.mended_overridden.Goals as goal

pub returns : goal.returns
returns c =
    let half = c.in_ok-half.half.items in
    let P : List ℕ → Type 0 = λ b. IfOk c.overridden_bytes.result (λ bytes. counted b ≡ Ok bytes.items) in
    if_ok c.overridden_bytes.result (λ bytes. counted half ≡ Ok bytes.items) (λ bytes. IsReadAs MendedOverridden c.args.given.now bytes.items)
    (λ bytes same. (half, c.in_ok-half.ensures, same)) (subst P c.as_slice.ensures.value c.overridden_bytes.ensures)
