use Rattle.edid_text_lines.proofs.OneWord.{one_word}
use Rattle.edid_text_lines.proofs.laws.one_text_of_words.Goals as goal

pub returns : goal.returns
returns c = one_word
