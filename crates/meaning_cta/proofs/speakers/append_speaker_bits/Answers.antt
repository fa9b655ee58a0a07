use Rattle.meaning_cta.proofs.speakers.append_speaker_bits.Goals as goal

pub returns-clause-items : goal.returns-clause-items
returns-clause-items c = c.append_bits.ensures.items
