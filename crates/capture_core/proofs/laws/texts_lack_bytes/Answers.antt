use Rattle.capture_core.proofs.Texts as Texts
use Rattle.capture_core.proofs.laws.texts_lack_bytes.Goals as goal

pub returns-clause-none : goal.returns-clause-none
returns-clause-none c = Texts.none_lack

pub returns-clause-more : goal.returns-clause-more
returns-clause-more c = Texts.more_lack

pub returns-clause-shown : goal.returns-clause-shown
returns-clause-shown c = Texts.shown
