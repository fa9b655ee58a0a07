use Rattle.room_driven.proofs.HasDrives as HasDrives
use Rattle.room_driven.proofs.laws.runs_have_drives.Goals as goal

pub returns : goal.returns
returns c = HasDrives.runs_have_drives
