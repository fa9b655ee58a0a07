use Rattle.judge_laws.proofs.Agree as lemmas
use Rattle.judge_laws.proofs.laws.cut_traces_agree.Goals as goal

pub returns : goal.returns
returns c = lemmas.cut_traces_agree
