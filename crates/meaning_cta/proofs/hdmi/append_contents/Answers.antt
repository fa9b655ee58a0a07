use Rattle.meaning_cta.proofs.hdmi.append_contents.Goals as goal

pub returns-clause-items : goal.returns-clause-items
returns-clause-items c = c.append_bits.ensures.items
