use Rattle.meaning_base.proofs.inputs.append_analog.Goals as goal

pub returns-clause-items : goal.returns-clause-items
returns-clause-items c = c.append_bits.ensures.items
