use Rattle.capture_core.proofs.Passing as Passing
use Rattle.capture_core.proofs.laws.texts_are_read_in_order.Goals as goal

pub returns-clause-word : goal.returns-clause-word
returns-clause-word g c = Passing.word_taken

pub returns-clause-line : goal.returns-clause-line
returns-clause-line g c = Passing.line_passed

pub returns-clause-alone : goal.returns-clause-alone
returns-clause-alone g c = Passing.alone
