use Rattle.capture_core.proofs.Numbers as Numbers
use Rattle.capture_core.proofs.laws.numbers_are_read_again.Goals as goal

pub returns-clause-read : goal.returns-clause-read
returns-clause-read c = Numbers.number_again

pub returns-clause-numeral : goal.returns-clause-numeral
returns-clause-numeral c = Numbers.decimal_numeral

pub returns-clause-value : goal.returns-clause-value
returns-clause-value c = Numbers.decimal_value
