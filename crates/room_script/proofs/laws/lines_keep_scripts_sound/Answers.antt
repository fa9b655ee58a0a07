use Rattle.room_script.proofs.Sound as Sound
use Rattle.room_script.proofs.laws.lines_keep_scripts_sound.Goals as goal

pub returns-clause-start : goal.returns-clause-start
returns-clause-start c = Sound.sound_start

pub returns-clause-line : goal.returns-clause-line
returns-clause-line c = Sound.line-keeps

pub returns-clause-timely : goal.returns-clause-timely
returns-clause-timely c = Sound.tested
