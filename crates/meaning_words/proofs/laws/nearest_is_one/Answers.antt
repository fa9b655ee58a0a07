use Rattle.meaning_words.proofs.NearestLemmas.{nearest_is, nearest_one}
use Rattle.meaning_words.proofs.laws.nearest_is_one.Goals as goal

pub returns-clause-nearest : goal.returns-clause-nearest
returns-clause-nearest c = nearest_is

pub returns-clause-one : goal.returns-clause-one
returns-clause-one c = nearest_one
