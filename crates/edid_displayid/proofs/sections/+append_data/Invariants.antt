use Rattle.std.proofs.Common.{length}
use Rattle.edid_displayid.proofs.sections.+append_data.Given as goal

abbrev pub decreases-append_data : goal.decreases-append_data
decreases-append_data l = length l.count.now
