use Rattle.edid_laws.proofs.HdmiBack.{codes_back}
use Rattle.edid_laws.proofs.word_laws.hdmi_codes_are_read_back.Goals as goal

pub returns : goal.returns
returns c = codes_back
