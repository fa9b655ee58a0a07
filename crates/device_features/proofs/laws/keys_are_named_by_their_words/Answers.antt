use Rattle.text_core.proofs.KindWords.{word_of_found}
use Rattle.device_features.specs.KeyWords.{key_text, key_words}
use Rattle.device_features.proofs.KeyWordLemmas.{key_read_again}
use Rattle.device_features.proofs.laws.keys_are_named_by_their_words.Goals as goal

pub returns-clause-read : goal.returns-clause-read
returns-clause-read c = key_read_again

pub returns-clause-only : goal.returns-clause-only
returns-clause-only c = λ text word. word_of_found key_text key_words text word
