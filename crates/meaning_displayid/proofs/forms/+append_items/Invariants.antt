use Rattle.std.proofs.Common.{length}
use Rattle.meaning_displayid.proofs.forms.+append_items.Given as goal

abbrev pub decreases-append_items : goal.decreases-append_items
decreases-append_items l = length l.count.now
