use Rattle.std.proofs.Common.{ap, ◌∙◌}
use Rattle.edid_core.specs.Bytes.{has_length}
use Rattle.edid_ddc.proofs.Lengths.{edid_length, first_segment}
use Rattle.edid_ddc.proofs.ddc.Ddc.new.Goals as goal

pub invariant_of-result : goal.invariant_of-result
invariant_of-result c =
    let whole = ap has_length c.edid_to_bytes.ensures ∙ edid_length c.args.edid.now in
    (whole, first_segment c.edid_to_bytes.result.items whole)
