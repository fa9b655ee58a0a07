use Rattle.edid_difference.proofs.aligning.is_first_lone.Goals as goal

pub returns : goal.returns
returns c = rw (c.has_kind.ensures, c.has_kind-2.ensures, c.place_after.ensures, c.place_after-2.ensures) at c.is_lone.ensures
