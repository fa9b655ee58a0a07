use Rattle.std.proofs.Common.{length}
use Rattle.meaning_displayid.proofs.forms.+append_lines.Given as goal

abbrev pub decreases-append_lines : goal.decreases-append_lines
decreases-append_lines l = length l.lines.now
