use Rattle.std.proofs.Common.{length}
use Rattle.edid_fields.proofs.words.+are_some_reserved.Given as goal

abbrev pub decreases-are_some_reserved : goal.decreases-are_some_reserved
decreases-are_some_reserved l = length l.reports.now
