use Rattle.room_script.proofs.Adding as Adding
use Rattle.room_script.proofs.laws.lines_add_little.Goals as goal

pub returns-clause-adds : goal.returns-clause-adds
returns-clause-adds c = Adding.line_adds

pub returns-clause-few : goal.returns-clause-few
returns-clause-few c = Adding.few_pulses

pub returns-clause-again : goal.returns-clause-again
returns-clause-again c = Adding.read_again
