use Rattle.audit_notes.proofs.records.add_request.Goals as goal

pub returns : goal.returns
returns g c = rw (c.named.ensures, c.in_section.ensures) at c.add_kind.ensures
