use Rattle.std.proofs.Common.{length}
use Rattle.text_forms.proofs.form.+is_whole.Given as goal

abbrev pub decreases-is_whole : goal.decreases-is_whole
decreases-is_whole l = length l.form.now
