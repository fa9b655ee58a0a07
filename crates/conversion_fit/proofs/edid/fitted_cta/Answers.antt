use Rattle.std.proofs.Common.{◌∙◌, ap, List}
use Rattle.edid_base.specs.declared.timing.Timing.{Timing}
use Rattle.edid_cta.specs.declared.block.DataBlock.{DataBlock}
use Rattle.conversion_fit.specs.Blocks.{fitted_blocks}
use Rattle.conversion_fit.specs.Timings.{led_timings}
use Rattle.conversion_fit.proofs.Sizes.{room}
use Rattle.conversion_fit.proofs.edid.fitted_cta.Goals as goal

pub cta_with-requires : goal.cta_with-requires
cta_with-requires c =
    let xs = c.args.extensions.now in
    let ds = c.args.base.now.descriptors in
    let old = c.args.cta.now in
    let first = c.leader.result in
    room xs ds first old.blocks.items c.fitted_blocks-blocks.result.items old.timings.items c.led_timings-timings.result.items old.tail.items
    (c.fitted_blocks-blocks.ensures ∙ ap (λ (bs : List DataBlock). fitted_blocks xs bs) c.as_slice.ensures.value)
    (c.led_timings-timings.ensures ∙ ap (λ (ts : List Timing). led_timings xs ds first ts) c.as_slice-2.ensures.value) old.whole
