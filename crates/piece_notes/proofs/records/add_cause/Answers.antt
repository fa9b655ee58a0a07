use Rattle.piece_notes.proofs.records.add_cause.Goals as goal

pub returns : goal.returns
returns g c = rw (c.named.ensures, c.in_section.ensures, c.cause_name.ensures, c.cause_section.ensures, c.cause_words.ensures) at c.add_record.ensures
