use Rattle.std.proofs.Common.{length, arith, ap}
use Rattle.edid_cta.specs.declared.block.DataBlock.{DataBlock}
use Rattle.edid_cta.proofs.Hearing.{audio_at, longer}
use Rattle.edid_cta.proofs.audio.growth.Goals as goal

pub returns-clause-less : goal.returns-clause-less
returns-clause-less c =
    let at = audio_at c.args.blocks.now c.args.index c.requires.first in
    let more = longer c.args.blocks.now c.args.index c.index-blocks-index.result at.0 at.1 in
    let old = c.len-old.ensures.value in
    let block = c.index-blocks-index.is in
    let less = c.saturating_sub.ensures in
    let len = ap (λ (b : DataBlock). length b.payload.items) block in
    omega (arith, more, old, less, len)

pub returns-clause-more : goal.returns-clause-more
returns-clause-more c =
    let at = audio_at c.args.blocks.now c.args.index c.requires.first in
    let more = longer c.args.blocks.now c.args.index c.index-blocks-index.result at.0 at.1 in
    let old = c.len-old.ensures.value in
    let block = c.index-blocks-index.is in
    let less = c.saturating_sub-2.ensures in
    let len = ap (λ (b : DataBlock). length b.payload.items) block in
    omega (arith, more, old, less, len)
