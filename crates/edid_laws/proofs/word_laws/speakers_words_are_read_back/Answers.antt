use Rattle.edid_laws.proofs.SpeakersBack.{speakers_back}
use Rattle.edid_laws.proofs.word_laws.speakers_words_are_read_back.Goals as goal

pub returns : goal.returns
returns c = speakers_back
