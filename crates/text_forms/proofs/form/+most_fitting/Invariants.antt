use Rattle.std.proofs.Common.{length}
use Rattle.text_forms.proofs.form.+most_fitting.Given as goal

abbrev pub decreases-most_fitting : goal.decreases-most_fitting
decreases-most_fitting g l = length l.forms.now
