use Rattle.meaning_eld.proofs.records.add_fields.Goals as goal

pub returns : goal.returns
returns g c =
    rw (
      c.from.ensures,
      c.number.ensures.number,
      c.from-2.ensures,
      c.connection_name.ensures,
      c.from-3.ensures,
      c.as_slice-2.ensures.value,
      c.maker_word-letters.ensures,
      c.from-4.ensures,
      c.as_slice-3.ensures.value,
      c.name_word-name.ensures,
      c.as_slice.ensures.value,
    ) at c.add_cells.ensures
