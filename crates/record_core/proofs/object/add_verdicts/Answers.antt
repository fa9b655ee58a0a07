use Rattle.std.proofs.lemmas.List.{take_rest}
use Rattle.record_core.proofs.Plain.{listed_as}
use Rattle.record_core.specs.Cells.{switch_json}
use Rattle.record_core.proofs.object.add_verdicts.Goals as goal

pub returns-in-len1-up : goal.returns-in-len1-up
returns-in-len1-up g c =
    listed_as switch_json c.args.verdicts.now _ c.args.out.now c.add_first_verdict.new.out c.add_other_verdicts.new.out c.in-len1-up.len_at_least c.add_first_verdict.ensures (rw take_rest at c.add_other_verdicts.ensures)
