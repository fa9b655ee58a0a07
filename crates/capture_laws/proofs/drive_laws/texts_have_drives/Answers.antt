use Rattle.capture_laws.proofs.Dumps as lemmas
use Rattle.capture_laws.proofs.drive_laws.texts_have_drives.Goals as goal

pub returns : goal.returns
returns c = lemmas.texts_have_drives
