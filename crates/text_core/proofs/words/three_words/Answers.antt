use Rattle.text_core.proofs.PartedLemmas.{three_of-past}
use Rattle.text_core.proofs.words.three_words.Goals as goal

pub returns-in_default-Some : goal.returns-in_default-Some
returns-in_default-Some c =
    let w1 = rw c.in_ok-rest-2.was at c.first_word.ensures in
    let w2 = rw c.in_ok-rest-3.was at c.first_word-2.ensures in
    let w3 = rw c.in_default-Some.is-1 at c.first_word-3.ensures in
    rw c.in_ok-rest.was (three_of-past c.in_ok-rest.field-0.now c.in_ok-rest-2.field-0.now c.in_ok-rest-3.field-0.now c.in_default-Some.field-0-1.now _ _ _ w1 w2 w3)
