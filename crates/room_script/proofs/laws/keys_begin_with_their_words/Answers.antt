use Rattle.room_script.proofs.KeyTexts.{has_its_word, rows_name_keys}
use Rattle.room_script.proofs.laws.keys_begin_with_their_words.Goals as goal

pub returns-clause-word : goal.returns-clause-word
returns-clause-word c = has_its_word

pub returns-clause-form : goal.returns-clause-form
returns-clause-form c = rows_name_keys
