use Rattle.std.proofs.Common.{◌∙◌, ap}
use Rattle.edid_as_source.specs.Count.{with_count}
use Rattle.program_edids.proofs.edid.Blocks.recounted.Goals as goal

pub returns : goal.returns
returns c =
    let same = c.as_slice-blocks.ensures.value in
    (c.in_ok-given.given.items, c.in_ok-given.ensures, (c.in_ok-is_edid.ensures.0, c.in_ok-is_edid.ensures.1 ∙ same), c.with_count.ensures ∙ ap (λ b. with_count b c.args.count) same)
