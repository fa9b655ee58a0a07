use Rattle.edid_room.proofs.records.add_cta.Goals as goal

pub returns : goal.returns
returns g c =
    rw (c.cta_left-left.ensures, c.cta_blocks.ensures.value, c.cta_timings.ensures.value, c.cta_tail.ensures.value, c.cta_used.ensures) at c.add_cta_cells.ensures
