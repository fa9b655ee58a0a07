use Rattle.capture_core.proofs.Passing as Passing
use Rattle.capture_core.proofs.laws.read_texts_go_on.Goals as goal

pub returns-clause-lines : goal.returns-clause-lines
returns-clause-lines g c = Passing.line_onward

pub returns-clause-words : goal.returns-clause-words
returns-clause-words g c = Passing.onward

pub returns-clause-steps : goal.returns-clause-steps
returns-clause-steps g c = Passing.without_word
