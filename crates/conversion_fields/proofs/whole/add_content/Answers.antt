use Rattle.conversion_fields.proofs.Adding.{content_added}
use Rattle.conversion_fields.proofs.whole.add_content.Goals as goal

pub returns : goal.returns
returns g c =
    content_added c.args.number c.add_blocks-timings.result c.len.result c.args.cta.now.blocks.items _ c.args.cta.now.timings.items _ c.args.cta.now.tail.items _ c.args.out.now
    c.add_blocks-timings.new.out c.add_timings.new.out c.add_plain.new.out c.as_slice.ensures.value c.as_slice-2.ensures.value c.as_slice-3.ensures.value c.add_blocks-timings.ensures.end
    c.len.ensures.value c.add_blocks-timings.ensures.text c.add_timings.ensures c.add_plain.ensures
