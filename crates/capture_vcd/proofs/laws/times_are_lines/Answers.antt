use Rattle.capture_vcd.proofs.Texts as Texts
use Rattle.capture_vcd.proofs.laws.times_are_lines.Goals as goal

pub returns-clause-word : goal.returns-clause-word
returns-clause-word c = Texts.time_parts

pub returns-clause-plain : goal.returns-clause-plain
returns-clause-plain c = Texts.time_plain
