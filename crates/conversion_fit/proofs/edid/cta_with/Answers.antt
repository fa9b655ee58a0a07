use Rattle.std.proofs.Common.{◌≡◌, ◌∙◌, ap, ℕ, ◌+◌, ◌-◌, ◌<◌, List, length, flat_map, arith}
use Rattle.edid_base.proofs.Bytes.{are_bytes-cons}
use Rattle.edid_base.specs.Bytes.{are_bytes}
use Rattle.edid_base.specs.Timing.{timing_bytes}
use Rattle.edid_cta.specs.Block.{block_bytes}
use Rattle.edid_cta.specs.Cta.{is_tail}
use Rattle.edid_cta.specs.declared.block.DataBlock.{DataBlock}
use Rattle.conversion_fit.specs.Zeros.{zeros_after}
use Rattle.conversion_fit.proofs.Sizes.{counted}
use Rattle.conversion_fit.proofs.Zeros.{zeros_bytes, zeros_end, zeros_whole}
use Rattle.conversion_fit.proofs.edid.cta_with.Goals as goal

pub zeros_after-tail-requires : goal.zeros_after-tail-requires
zeros_after-tail-requires c =
    let same = counted c.args.blocks.items c.args.timings.items c.count_of.result c.len.result
    (c.count_of.ensures ∙ ap (λ (bs : List DataBlock). length (flat_map block_bytes bs)) c.as_slice.ensures.value) c.len.ensures.value in
    let room = c.requires in
    omega (arith, same, room)

pub invariant_of-result : goal.invariant_of-result
invariant_of-result c =
    let blocks = length (flat_map block_bytes c.args.blocks.items) in
    let timings = length (flat_map timing_bytes c.args.timings.items) in
    let bytes = c.zeros_after-tail.result.items in
    let same = counted c.args.blocks.items c.args.timings.items c.count_of.result c.len.result
    (c.count_of.ensures ∙ ap (λ (bs : List DataBlock). length (flat_map block_bytes bs)) c.as_slice.ensures.value) c.len.ensures.value in
    let zeros : bytes ≡ zeros_after (blocks + timings) = c.zeros_after-tail.ensures ∙ ap zeros_after same in
    let flags : c.args.flags < 256 = omega arith in
    record {
      whole = zeros_whole blocks timings bytes c.requires zeros;
      ended = ap is_tail zeros ∙ zeros_end (123 - (blocks + timings));
      bytes_fit = are_bytes-cons c.args.flags bytes flags (ap are_bytes zeros ∙ zeros_bytes (123 - (blocks + timings)));
    }

pub returns-clause-tail : goal.returns-clause-tail
returns-clause-tail c =
    let same = counted c.args.blocks.items c.args.timings.items c.count_of.result c.len.result
    (c.count_of.ensures ∙ ap (λ (bs : List DataBlock). length (flat_map block_bytes bs)) c.as_slice.ensures.value) c.len.ensures.value in
    c.zeros_after-tail.ensures ∙ ap zeros_after same
