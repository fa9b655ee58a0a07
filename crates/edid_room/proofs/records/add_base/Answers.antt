use Rattle.edid_room.proofs.records.add_base.Goals as goal

pub returns : goal.returns
returns g c =
    rw (c.free_descriptors-descriptors.ensures.value, c.free_standards-standards.ensures.value, c.from-established.ensures, c.free_established.ensures)
    at c.add_base_by.ensures
