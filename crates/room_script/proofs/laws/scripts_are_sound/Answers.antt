use Rattle.room_script.proofs.Sound.{scripts_are_sound}
use Rattle.room_script.proofs.laws.scripts_are_sound.Goals as goal

pub returns : goal.returns
returns c = scripts_are_sound
