use Rattle.capture_laws.proofs.Formats as lemmas
use Rattle.capture_laws.proofs.laws.monitors_report_traces_in_all.Goals as goal

pub returns : goal.returns
returns c = lemmas.monitors_report_traces_in_all
