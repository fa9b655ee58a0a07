use Rattle.capture_laws.proofs.Dumps as lemmas
use Rattle.capture_laws.proofs.drive_laws.dumps_report_drives.Goals as goal

pub returns : goal.returns
returns c = lemmas.dumps_report_drives
