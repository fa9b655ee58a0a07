use Rattle.std.proofs.Common.{sym, ◌∙◌}
use Rattle.edid_base.proofs.OneDescriptor.{one_descriptor}
use Rattle.edid_base.specs.declared.descriptor.Descriptor.TheVariants.{Raw}
use Rattle.edid_texts.proofs.LineParts.{same_bytes_line}
use Rattle.edid_texts.proofs.line_to_value.raw_of.Goals as goal

pub returns-in_default-read : goal.returns-in_default-read
returns-in_default-read c = λ r e.
    let bytes = same_bytes_line _ _ _ (e ∙ sym c.in-Some.ensures) in
    let is = one_descriptor c.read.result (Raw r) (c.read.ensures ∙ c.array_from.ensures.value ∙ sym bytes) in
    c.in_default-read.not-Raw r is
