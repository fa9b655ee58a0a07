use Rattle.std.proofs.Common.{length}
use Rattle.text_forms.proofs.form.+fitting_said.Given as goal

abbrev pub decreases-fitting_said : goal.decreases-fitting_said
decreases-fitting_said l = length l.form.now
