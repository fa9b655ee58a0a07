use Rattle.std.proofs.Common.{◌∙◌}
use Rattle.edid_ddc.proofs.Learning.{learnt}
use Rattle.edid_ddc.proofs.learn.read_address.Goals as goal

pub returns-clause-learnt : goal.returns-clause-learnt
returns-clause-learnt c =
    let read = c.in_ok-blocks.ensures.read in
    learnt c.args.ddc.now.bytes c.as_slice.result.now read.0 (c.as_slice.ensures.value ∙ read.1) c.address_in.result c.address_in.ensures.reported c.address_in.ensures.refused
