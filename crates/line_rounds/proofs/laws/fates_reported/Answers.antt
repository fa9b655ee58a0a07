use Rattle.line_rounds.proofs.ReportedFates as Fates
use Rattle.line_rounds.proofs.laws.fates_reported.Goals as goal

pub returns : goal.returns
returns c = Fates.fates_reported
