use Rattle.room_drives.proofs.Driven as lemmas
use Rattle.room_drives.proofs.laws.lines_are_driven.Goals as goal

pub returns : goal.returns
returns c = lemmas.lines_are_driven
