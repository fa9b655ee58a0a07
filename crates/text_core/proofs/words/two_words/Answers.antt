use Rattle.text_core.proofs.PartedLemmas.{two_of-past}
use Rattle.text_core.proofs.words.two_words.Goals as goal

pub returns-in_default-Some : goal.returns-in_default-Some
returns-in_default-Some c =
    let w1 = rw c.in_ok-rest-2.was at c.first_word.ensures in
    let w2 = rw c.in_default-Some.is-1 at c.first_word-2.ensures in
    rw c.in_ok-rest.was (two_of-past c.in_ok-rest.field-0.now c.in_ok-rest-2.field-0.now c.in_default-Some.field-0-1.now _ _ w1 w2)
