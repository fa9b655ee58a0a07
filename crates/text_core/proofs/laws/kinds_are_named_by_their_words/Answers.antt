use Rattle.text_core.specs.Kind.{kind_word, kinds}
use Rattle.text_core.proofs.KindWords.{kind_read_again, word_of_found}
use Rattle.text_core.proofs.laws.kinds_are_named_by_their_words.Goals as goal

pub returns-clause-read : goal.returns-clause-read
returns-clause-read c = kind_read_again

pub returns-clause-only : goal.returns-clause-only
returns-clause-only c = λ word kind. word_of_found kind_word kinds word kind
