use Rattle.edid_base.proofs.FormLemmas.{text_in_is}
use Rattle.edid_base.proofs.descriptor.text_in.Goals as goal

pub returns : goal.returns
returns c = text_in_is c.args.bytes.now c.told-bytes c.if-bytes-ne0.false c.read.result c.read.ensures
