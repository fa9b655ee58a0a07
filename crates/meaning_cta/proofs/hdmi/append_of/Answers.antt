use Rattle.meaning_cta.proofs.Joins.{joined}
use Rattle.meaning_cta.specs.Hdmi.{block_meanings, capability_meanings, plain_latencies, interlaced_latencies, video_part}
use Rattle.meaning_cta.proofs.hdmi.append_of.Goals as goal

pub returns : goal.returns
unfolding block_meanings
returns c =
    let b = c.args.block in
    joined _ _ _ (capability_meanings b) _ c.append_capabilities.ensures.items
    (joined _ _ _ (plain_latencies b.latencies) _ c.append_plain_latencies.ensures.items
    (joined _ _ _ (interlaced_latencies b.interlaced_latencies) (video_part c.args.codes.now b.video c.args.bytes.now) c.append_interlaced_latencies.ensures.items c.append_video_part.ensures))
