use Rattle.std.proofs.Common.{refl}
use Rattle.edid_texts.specs.Lines.{edid_text}
use Rattle.program_edids.proofs.edid.write_as_text.Goals as goal

pub returns : goal.returns
returns g c =
    let reported = c.in_ok-edid_to_text.ensures.answers in
    (edid_text reported.0, (reported.0, reported.1, refl), reported.2)
