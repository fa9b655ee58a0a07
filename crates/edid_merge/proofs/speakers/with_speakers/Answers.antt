use Rattle.std.proofs.Common.{◌≡◌, ◌∙◌, ap, sym, false}
use Rattle.edid_merge.specs.Speakers.{fits}
use Rattle.edid_merge.proofs.speakers.with_speakers.Goals as goal

pub returns-then-fits-clause-spoken : goal.returns-then-fits-clause-spoken
returns-then-fits-clause-spoken c = (c.in-Ok.edid, c.spoken_edid.result, c.in-Ok.ensures.found, c.spoken_edid.ensures, sym c.edid_to_bytes.ensures)

pub returns-else-fits-clause-refused : goal.returns-else-fits-clause-refused
returns-else-fits-clause-refused c =
    let none : fits c.in-Ok.edid.extensions.items ≡ false = ap fits (sym c.as_slice.ensures.value) ∙ sym c.fits.ensures ∙ c.if-fits.false in
    (c.in-Ok.edid, c.in-Ok.ensures.found, none)
