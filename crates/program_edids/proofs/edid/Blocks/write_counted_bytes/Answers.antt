use Rattle.program_edids.proofs.edid.Blocks.write_counted_bytes.Goals as goal

pub returns : goal.returns
returns g c = (c.as_slice.result.now, (c.in_ok-mended.mended.items, c.in_ok-mended.ensures, c.as_slice.ensures.value), c.in_ok-put_all.ensures.ok)
