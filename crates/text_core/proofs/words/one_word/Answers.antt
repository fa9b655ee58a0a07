use Rattle.text_core.proofs.PartedLemmas.{one_of-past}
use Rattle.text_core.proofs.words.one_word.Goals as goal

pub returns-in_default-Some : goal.returns-in_default-Some
returns-in_default-Some c =
    let w = rw c.in_default-Some.is-1 at c.first_word.ensures in
    rw c.in_ok-rest.was (one_of-past c.in_ok-rest.field-0.now c.in_default-Some.field-0-1.now _ w)
