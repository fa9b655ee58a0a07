use Rattle.std.proofs.Common.{refl}
use Rattle.message_meaning.specs.Sentences.{sentences}
use Rattle.message_meaning.proofs.sentences.table.Goals as goal

pub returns : goal.returns
unfolding sentences
returns c = refl
