use Rattle.edid_laws.proofs.HdmiBack.{block_back}
use Rattle.edid_laws.proofs.word_laws.hdmi_words_are_read_back.Goals as goal

pub returns : goal.returns
returns c = block_back
