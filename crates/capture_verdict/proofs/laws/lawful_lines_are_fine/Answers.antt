use Rattle.capture_verdict.proofs.Lawful.{lawful_fine}
use Rattle.capture_verdict.proofs.laws.lawful_lines_are_fine.Goals as goal

pub returns : goal.returns
returns c = lawful_fine
