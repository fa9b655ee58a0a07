use Rattle.std.proofs.Common.{length}
use Rattle.text_forms.proofs.read.+lack_value.Given as goal

abbrev pub decreases-lack_value : goal.decreases-lack_value
decreases-lack_value l = length l.form.now
