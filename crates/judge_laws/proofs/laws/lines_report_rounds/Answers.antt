use Rattle.judge_laws.proofs.LinesTold as lemmas
use Rattle.judge_laws.proofs.laws.lines_report_rounds.Goals as goal

pub returns : goal.returns
returns c = lemmas.lines_report_rounds
