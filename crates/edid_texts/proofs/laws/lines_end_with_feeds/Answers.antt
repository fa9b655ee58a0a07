use Rattle.edid_texts.proofs.CutLemmas.{first_ended, lines_none}
use Rattle.edid_texts.proofs.CutTexts.{line_split}
use Rattle.edid_texts.proofs.laws.lines_end_with_feeds.Goals as goal

pub returns-clause-ended : goal.returns-clause-ended
returns-clause-ended c = first_ended

pub returns-clause-alone : goal.returns-clause-alone
returns-clause-alone c = lines_none

pub returns-clause-split : goal.returns-clause-split
returns-clause-split c = line_split
