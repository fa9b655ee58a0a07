use Rattle.std.proofs.Common.{length}
use Rattle.text_forms.proofs.read.+form_of_words.Given as goal

abbrev pub decreases-form_of_words : goal.decreases-form_of_words
decreases-form_of_words g l = length l.forms.now
