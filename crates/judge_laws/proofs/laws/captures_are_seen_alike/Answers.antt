use Rattle.judge_laws.proofs.Alike as lemmas
use Rattle.judge_laws.proofs.laws.captures_are_seen_alike.Goals as goal

pub returns : goal.returns
returns c = lemmas.captures_are_seen_alike
