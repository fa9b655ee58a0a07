use Rattle.std.proofs.Common.{refl, ◌∙◌}
use Rattle.conversion_notes.specs.EdidMeaning.{meaning_of}
use Rattle.program_edids.proofs.edid.Blocks.write_meaning.Goals as goal

pub returns : goal.returns
returns g c =
    let reported = c.in_ok-edid_to_meaning.ensures.answers in
    (meaning_of reported.0, (c.in_ok-given.given.items, c.in_ok-given.ensures, (reported.0, reported.1 ∙ c.as_slice.ensures.value, refl)), reported.2)
