use Rattle.meaning_base.proofs.inputs.append_uses_of_four.Goals as goal

pub returns-clause-items : goal.returns-clause-items
returns-clause-items c = c.append_bits.ensures.items
