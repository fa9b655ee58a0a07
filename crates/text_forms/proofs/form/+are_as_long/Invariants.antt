use Rattle.std.proofs.Common.{length}
use Rattle.text_forms.proofs.form.+are_as_long.Given as goal

abbrev pub decreases-are_as_long : goal.decreases-are_as_long
decreases-are_as_long l = length l.form.now
