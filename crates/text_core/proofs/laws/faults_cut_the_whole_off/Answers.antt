use Rattle.text_core.proofs.Cutting as Cutting
use Rattle.text_core.proofs.laws.faults_cut_the_whole_off.Goals as goal

pub returns-clause-front : goal.returns-clause-front
returns-clause-front c = Cutting.cut_front

pub returns-clause-later : goal.returns-clause-later
returns-clause-later c = Cutting.cut_later
