use Rattle.capture_laws.proofs.Names as Names
use Rattle.capture_laws.proofs.drive_laws.names_are_the_topologys.Goals as goal

pub returns-clause-start : goal.returns-clause-start
returns-clause-start c = Names.names_started

pub returns-clause-words : goal.returns-clause-words
returns-clause-words c = Names.names_are_words
