use Rattle.std.proofs.Common.{refl, inl, inr, []}
use Rattle.text_core.proofs.Adding.{nothing}
use Rattle.edid_merge.specs.declared.repeater.MergeError.TheVariants.{Display, Receiver}
use Rattle.edid_merge.proofs.notes.add_notes.Goals as goal

pub returns-in-Err : goal.returns-in-Err
returns-in-Err g c = ([], inr ((Display c.in-Err.field-0, c.in-Err.ensures.refused), refl), nothing c.args.out.now)

pub returns-in-Err-one_edid : goal.returns-in-Err-one_edid
returns-in-Err-one_edid g c =
    ([], inr ((Receiver c.in-Err-one_edid.field-0, ((c.in-Ok.shown, c.in-Ok.ensures.found), c.in-Err-one_edid.ensures.refused)), refl), nothing c.args.out.now)

pub returns-in-Ok-one_edid : goal.returns-in-Ok-one_edid
returns-in-Ok-one_edid g c =
    let noted = c.add_of_pair.ensures in
    (noted.0, inl (c.in-Ok.shown, c.in-Ok-one_edid.known, c.in-Ok.ensures.found, c.in-Ok-one_edid.ensures.found, noted.1), noted.2)
