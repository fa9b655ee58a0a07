use Rattle.std.proofs.Common.{length}
use Rattle.edid_tables.proofs.layouts.+begins_with.Given as goal

abbrev pub decreases-begins_with : goal.decreases-begins_with
decreases-begins_with l = length l.front.now
