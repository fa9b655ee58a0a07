use Rattle.text_core.proofs.Counting as Counting
use Rattle.text_core.proofs.laws.counts_are_of_texts.Goals as goal

pub returns-clause-whole : goal.returns-clause-whole
returns-clause-whole c = Counting.all_of

pub returns-clause-cut : goal.returns-clause-cut
returns-clause-cut c = Counting.front_of
