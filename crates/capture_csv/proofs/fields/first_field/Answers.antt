use Rattle.std.proofs.Common.{◌==◌, sym}
use Rattle.text_core.proofs.LineLemmas.{split_none, split_some}
use Rattle.capture_csv.proofs.fields.first_field.Goals as goal

pub returns-in-None-clause-fields : goal.returns-in-None-clause-fields
returns-in-None-clause-fields c = split_none (λ b. b == 44) c.args.line.now (sym c.in-None.ensures)

pub returns-in-Some-clause-fields : goal.returns-in-Some-clause-fields
returns-in-Some-clause-fields c = split_some (λ b. b == 44) c.args.line.now c.in-Some.end (sym c.in-Some.ensures)
