use Rattle.edid_eld.proofs.display.name_or.Goals as goal

pub returns-clause-items : goal.returns-clause-items
returns-clause-items c = rw c.write-bytes.ensures at c.named_or.ensures.items
