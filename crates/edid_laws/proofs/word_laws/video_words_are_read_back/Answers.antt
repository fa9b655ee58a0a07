use Rattle.edid_laws.proofs.VideoBack.{word_back}
use Rattle.edid_laws.proofs.word_laws.video_words_are_read_back.Goals as goal

pub returns-clause-native : goal.returns-clause-native
returns-clause-native c = λ word byte says. (word_back word byte says).native

pub returns-clause-code : goal.returns-clause-code
returns-clause-code c = λ word byte says. (word_back word byte says).code
