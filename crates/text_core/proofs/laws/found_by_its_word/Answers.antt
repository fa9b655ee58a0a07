use Rattle.text_core.proofs.KindWords as KindWords
use Rattle.text_core.proofs.laws.found_by_its_word.Goals as goal

pub returns : goal.returns
returns g c = KindWords.word_of_found
