use Rattle.capture_verdict.proofs.texts.add_verdict.Goals as goal

pub returns : goal.returns
returns g c = rw (c.word_of.ensures, c.sentence_of.ensures) at c.add_by.ensures
