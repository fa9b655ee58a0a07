use Rattle.capture_laws.proofs.Whole as lemmas
use Rattle.capture_laws.proofs.dump_laws.dumps_report_their_wires.Goals as goal

pub returns : goal.returns
returns c = lemmas.dumps_report_their_wires
