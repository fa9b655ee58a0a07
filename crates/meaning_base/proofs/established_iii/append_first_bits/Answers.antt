use Rattle.meaning_base.proofs.established_iii.append_first_bits.Goals as goal

pub returns-clause-items : goal.returns-clause-items
returns-clause-items c = c.append_bit_lines.ensures.items
