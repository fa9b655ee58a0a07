use Rattle.text_forms.proofs.ReadBack.{reads_back}
use Rattle.text_forms.proofs.laws.values_read_back.Goals as goal

pub returns : goal.returns
returns g c = reads_back _
