use Rattle.library_wire.proofs.Puts.{edid_of, text_put}
use Rattle.library_wire.proofs.edids.put_edid_text.Goals as goal

pub returns-in-Ok-clause-put : goal.returns-in-Ok-clause-put
returns-in-Ok-clause-put c = λ e spelled.
    text_put c.in-Ok.base c.as_slice.result.now c.read_parts.new.extensions.items e c.args.room.now c.put_text.new.room c.put_text.result
    (c.in-Ok.ensures.only e spelled) c.as_slice.ensures.value (c.in-Ok.ensures.listed e spelled) c.put_text.ensures

pub returns-in-Ok-clause-found : goal.returns-in-Ok-clause-found
returns-in-Ok-clause-found c = λ little. edid_of c.in-Ok.base c.read_parts.new.extensions c.args.bytes.now c.in-Ok.ensures.found c.in-Ok.ensures.counted c.in-Ok.ensures.few
