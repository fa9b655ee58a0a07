use Rattle.std.proofs.Common.{sym}
use Rattle.text_core.proofs.LineLemmas.{all_before}
use Rattle.text_core.proofs.parts.len_before.Goals as goal

pub returns-in-None-clause-value : goal.returns-in-None-clause-value
returns-in-None-clause-value c = all_before c.args.byte c.args.text.now (sym c.in-None.ensures)
