use Rattle.capture_laws.proofs.ReadBack as lemmas
use Rattle.capture_laws.proofs.laws.monitors_report_traces.Goals as goal

pub returns : goal.returns
returns c = lemmas.monitors_report_traces
