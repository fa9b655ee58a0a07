use Rattle.verdict_laws.proofs.Verdict.{sent_fine}
use Rattle.verdict_laws.proofs.laws.sent_lines_are_fine.Goals as goal

pub returns : goal.returns
returns c = sent_fine
