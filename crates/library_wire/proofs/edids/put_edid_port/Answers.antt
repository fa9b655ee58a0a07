use Rattle.std.proofs.Common.{◌++◌, ◌∙◌, ap}
use Rattle.edid_base.specs.Base.{base_bytes}
use Rattle.edid_core.specs.Address.{first_address}
use Rattle.edid_core.specs.Passing.{passed_extensions}
use Rattle.library_wire.specs.Edids.{audio_of, phys_of}
use Rattle.library_wire.proofs.Puts.{edid_of, passed_put, passed_refused}
use Rattle.library_wire.proofs.edids.put_edid_port.Goals as goal

pub returns-in-Ok-clause-put : goal.returns-in-Ok-clause-put
returns-in-Ok-clause-put c = λ e a spelled addressed.
    passed_put c.in-Ok.base c.as_slice.result.now c.read_parts.new.extensions.items e a c.audio_of-audio.result (audio_of c.args.from_amplifier) c.phys_of-phys.result (phys_of c.args.address)
    c.args.room.now c.put_passed.new.room c.put_passed.result (c.in-Ok.ensures.only e spelled) c.as_slice.ensures.value (c.in-Ok.ensures.listed e spelled)
    c.audio_of-audio.ensures c.phys_of-phys.ensures addressed c.put_passed.ensures.put

pub returns-in-Ok-clause-absent : goal.returns-in-Ok-clause-absent
returns-in-Ok-clause-absent c = λ e spelled none. c.put_passed.ensures.absent (ap first_address (c.as_slice.ensures.value ∙ c.in-Ok.ensures.listed e spelled) ∙ none)

pub returns-in-Ok-clause-found : goal.returns-in-Ok-clause-found
returns-in-Ok-clause-found c = λ little. edid_of c.in-Ok.base c.read_parts.new.extensions c.args.bytes.now c.in-Ok.ensures.found c.in-Ok.ensures.counted c.in-Ok.ensures.few

pub returns-in-Ok-clause-refused : goal.returns-in-Ok-clause-refused
returns-in-Ok-clause-refused c = λ more other.
    absurd (passed_refused c.as_slice.result.now (base_bytes c.in-Ok.base ++ passed_extensions c.audio_of-audio.result c.phys_of-phys.result c.as_slice.result.now)
    c.args.room.now c.put_passed.new.room c.put_passed.result c.put_passed.ensures.put c.put_passed.ensures.absent more other)
