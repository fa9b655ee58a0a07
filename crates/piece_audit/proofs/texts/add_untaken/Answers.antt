use Rattle.piece_audit.proofs.texts.add_untaken.Goals as goal

pub returns : goal.returns
returns g c = rw (c.goes_on_after.ensures, c.as_slice.ensures.value) at c.add_goes_on_part.ensures
