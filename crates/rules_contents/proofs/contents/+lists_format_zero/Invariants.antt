use Rattle.std.proofs.Common.{length}
use Rattle.rules_contents.proofs.contents.+lists_format_zero.Given as goal

abbrev pub decreases-lists_format_zero : goal.decreases-lists_format_zero
decreases-lists_format_zero l = length l.formats.now
