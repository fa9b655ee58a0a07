use Rattle.std.proofs.Common.{length}
use Rattle.edid_displayid.proofs.sections.+append_formats.Given as goal

abbrev pub decreases-append_formats : goal.decreases-append_formats
decreases-append_formats l = length l.count.now
