use Rattle.std.proofs.Common.{length, ap, ◌∙◌}
use Rattle.edid_texts.proofs.line_to_value.limits_from.Goals as goal

pub invariant_of-result : goal.invariant_of-result
invariant_of-result c = record { whole = ap length c.array_from.ensures.value ∙ c.requires; bytes_fit = c.array_from.ensures.fit }
