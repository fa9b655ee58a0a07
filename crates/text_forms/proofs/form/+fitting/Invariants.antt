use Rattle.std.proofs.Common.{length}
use Rattle.text_forms.proofs.form.+fitting.Given as goal

abbrev pub decreases-fitting : goal.decreases-fitting
decreases-fitting l = length l.form.now
