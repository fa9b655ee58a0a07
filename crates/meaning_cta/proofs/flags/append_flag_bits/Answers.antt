use Rattle.meaning_cta.proofs.flags.append_flag_bits.Goals as goal

pub returns-clause-items : goal.returns-clause-items
returns-clause-items c = c.append_bits.ensures.items
