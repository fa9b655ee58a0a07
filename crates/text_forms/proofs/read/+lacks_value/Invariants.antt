use Rattle.std.proofs.Common.{length}
use Rattle.text_forms.proofs.read.+lacks_value.Given as goal

abbrev pub decreases-lacks_value : goal.decreases-lacks_value
decreases-lacks_value l = length l.form.now
