use Rattle.edid_difference.proofs.records.add_second.Goals as goal

pub returns : goal.returns
returns g c =
    rw (c.from.ensures, c.from-2.ensures, c.as_slice.ensures.value, c.line_said-whole.ensures, c.text.ensures.value, c.as_slice-2.ensures.value, c.whole_text-fields.ensures)
    at c.add_second_cells.ensures
