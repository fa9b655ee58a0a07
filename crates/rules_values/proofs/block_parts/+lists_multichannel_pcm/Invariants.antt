use Rattle.std.proofs.Common.{length}
use Rattle.rules_values.proofs.block_parts.+lists_multichannel_pcm.Given as goal

abbrev pub decreases-lists_multichannel_pcm : goal.decreases-lists_multichannel_pcm
decreases-lists_multichannel_pcm l = length l.formats.now
