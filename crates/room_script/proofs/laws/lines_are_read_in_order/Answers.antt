use Rattle.room_script.proofs.Reading as Reading
use Rattle.room_script.proofs.Sound.{answer_given}
use Rattle.room_script.proofs.laws.lines_are_read_in_order.Goals as goal

pub returns-clause-first : goal.returns-clause-first
returns-clause-first c = Reading.line_read

pub returns-clause-last : goal.returns-clause-last
returns-clause-last c = Reading.last_line

pub returns-clause-given : goal.returns-clause-given
returns-clause-given c = answer_given
