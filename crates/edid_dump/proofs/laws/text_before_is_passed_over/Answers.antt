use Rattle.edid_dump.proofs.Before as lemmas
use Rattle.edid_dump.proofs.laws.text_before_is_passed_over.Goals as goal

pub returns : goal.returns
returns c = lemmas.text_before
