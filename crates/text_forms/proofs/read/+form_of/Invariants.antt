use Rattle.std.proofs.Common.{length}
use Rattle.text_forms.proofs.read.+form_of.Given as goal

abbrev pub decreases-form_of : goal.decreases-form_of
decreases-form_of g l = length l.forms.now
