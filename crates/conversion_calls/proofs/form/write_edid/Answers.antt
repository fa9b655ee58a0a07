use Rattle.conversion_calls.proofs.Parts.{form_whole}
use Rattle.conversion_calls.proofs.form.write_edid.Goals as goal

pub returns : goal.returns
returns g c =
    let same = form_whole c.args.form c.args.edid.now in
    rw same at c.write_in.ensures
