use Rattle.audit_notes.proofs.records.add_failure.Goals as goal

pub returns : goal.returns
returns g c = rw (c.named.ensures, c.in_section.ensures, c.verdict_name.ensures, c.verdict_lead.ensures, c.limit_cell.ensures) at c.add_kind.ensures
