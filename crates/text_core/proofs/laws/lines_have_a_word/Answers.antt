use Rattle.text_core.proofs.PartedLemmas as PartedLemmas
use Rattle.text_core.proofs.laws.lines_have_a_word.Goals as goal

pub returns : goal.returns
returns c = PartedLemmas.words_of-some
