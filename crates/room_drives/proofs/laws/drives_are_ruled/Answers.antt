use Rattle.room_drives.proofs.Whole as lemmas
use Rattle.room_drives.proofs.laws.drives_are_ruled.Goals as goal

pub returns : goal.returns
returns c = lemmas.drives_are_ruled
