use Rattle.meaning_words.proofs.Joins as Joins
use Rattle.meaning_words.proofs.laws.lines_join.Goals as goal

pub returns : goal.returns
returns c = Joins.joined
