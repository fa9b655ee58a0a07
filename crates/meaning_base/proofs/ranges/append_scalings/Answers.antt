use Rattle.meaning_base.proofs.ranges.append_scalings.Goals as goal

pub returns-clause-items : goal.returns-clause-items
returns-clause-items c = c.append_bits.ensures.items
