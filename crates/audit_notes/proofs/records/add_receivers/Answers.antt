use Rattle.audit_notes.proofs.records.add_receivers.Goals as goal

pub returns : goal.returns
returns g c = rw (c.named.ensures, c.in_section.ensures, c.receivers_words.ensures) at c.add_kind.ensures
