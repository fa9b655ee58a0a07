use Rattle.edid_laws.proofs.Plain.{hdmi_plain, speakers_plain}
use Rattle.edid_laws.proofs.word_laws.no_word_is_hex.Goals as goal

pub returns-clause-hdmi : goal.returns-clause-hdmi
returns-clause-hdmi c = hdmi_plain

pub returns-clause-speakers : goal.returns-clause-speakers
returns-clause-speakers c = speakers_plain
