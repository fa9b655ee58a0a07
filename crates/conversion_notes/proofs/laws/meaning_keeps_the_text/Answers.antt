use Rattle.conversion_notes.proofs.KeptLemmas.{keeps}
use Rattle.conversion_notes.proofs.laws.meaning_keeps_the_text.Goals as goal

pub returns : goal.returns
returns c = keeps
