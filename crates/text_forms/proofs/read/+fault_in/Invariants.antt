use Rattle.std.proofs.Common.{length}
use Rattle.text_forms.proofs.read.+fault_in.Given as goal

abbrev pub decreases-fault_in : goal.decreases-fault_in
decreases-fault_in l = length l.form.now
