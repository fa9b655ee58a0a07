use Rattle.audit_notes.proofs.records.add_spread.Goals as goal

pub returns : goal.returns
returns g c = rw c.name.ensures at c.add_kind.ensures
