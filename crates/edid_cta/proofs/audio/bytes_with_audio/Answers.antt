use Rattle.std.proofs.Common.{set, ap, ◌∙◌}
use Rattle.std.specs.List.{find, before_first}
use Rattle.std.specs.List.{flat_map}
use Rattle.edid_cta.specs.Block.{block_bytes}
use Rattle.edid_cta.specs.Hdmi.{is_hdmi}
use Rattle.edid_cta.proofs.Hearing.{audio_at, set_heard, set_found, set_before}
use Rattle.edid_cta.proofs.audio.bytes_with_audio.Goals as goal

pub returns-clause-bytes : goal.returns-clause-bytes
returns-clause-bytes c =
    let at = audio_at c.args.blocks.now c.args.index c.requires.first in
    let items = c.put.ensures ∙ ap (λ t. set t c.args.index c.amplifier_block.result) c.copies_of-copies.ensures in
    ap (flat_map block_bytes) items ∙ set_heard c.args.blocks.now c.args.index c.amplifier_block.result at.0 at.1 c.amplifier_block.ensures.bytes

pub returns-clause-hdmi : goal.returns-clause-hdmi
returns-clause-hdmi c =
    let at = audio_at c.args.blocks.now c.args.index c.requires.first in
    let items = c.put.ensures ∙ ap (λ t. set t c.args.index c.amplifier_block.result) c.copies_of-copies.ensures in
    ap (find is_hdmi) items ∙ set_found c.args.blocks.now c.args.index c.amplifier_block.result at.0 at.1 c.amplifier_block.ensures.audio

pub returns-clause-before : goal.returns-clause-before
returns-clause-before c =
    let at = audio_at c.args.blocks.now c.args.index c.requires.first in
    let items = c.put.ensures ∙ ap (λ t. set t c.args.index c.amplifier_block.result) c.copies_of-copies.ensures in
    ap (λ t. flat_map block_bytes (before_first is_hdmi t)) items
    ∙ set_before c.args.blocks.now c.args.index c.amplifier_block.result at.0 at.1 c.amplifier_block.ensures.bytes c.amplifier_block.ensures.audio
