use Rattle.audit_judged.proofs.Lawful as Lawful
use Rattle.audit_judged.proofs.laws.lawful_widths_have_no_remark.Goals as goal

pub returns : goal.returns
returns c = Lawful.lawful
