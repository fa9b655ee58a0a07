use Rattle.dis_laws.proofs.Kept.{meanings_keep_the_texts}
use Rattle.dis_laws.proofs.laws.meanings_keep_the_texts.Goals as goal

pub returns : goal.returns
returns c = meanings_keep_the_texts
