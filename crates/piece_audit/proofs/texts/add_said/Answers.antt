use Rattle.piece_audit.proofs.texts.add_said.Goals as goal

pub returns : goal.returns
returns g c = rw (c.said_of.ensures, c.as_slice.ensures.value) at c.add_said_part.ensures
