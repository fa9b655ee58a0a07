use Rattle.std.proofs.Common.{length}
use Rattle.meaning_displayid.proofs.forms.+append_says.Given as goal

abbrev pub decreases-append_says : goal.decreases-append_says
decreases-append_says l = length l.says.now
