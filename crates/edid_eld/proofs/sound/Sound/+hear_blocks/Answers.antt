use Rattle.std.proofs.Common.{refl}
use Rattle.std.specs.List.{flat_map, list_any}
use Rattle.std.proofs.lemmas.List.{take_rest}
use Rattle.edid_eld.proofs.Joined.{any_joined, audio_joined, audio_stays, last_joined}
use Rattle.edid_eld.specs.Display.{audio_in, delays_in, speakers_in, takes_ai}
use Rattle.edid_eld.proofs.sound.Sound.+hear_blocks.Goals as goal

pub returns-in_default-clause-audio : goal.returns-in_default-clause-audio
returns-in_default-clause-audio t c = audio_stays (flat_map audio_in) refl c.args.blocks.now c.args.self.now.audio.items c.in_default.len_below c.args.self.now.fits

pub returns-in-len1-up-clause-ai : goal.returns-in-len1-up-clause-ai
returns-in-len1-up-clause-ai t c =
    any_joined takes_ai (list_any takes_ai) (λ y ys. refl) c.args.blocks.now c.block-item.result _ _ _ _ c.in-len1-up.len_at_least c.block-item.is c.hear.ensures.ai
    (rw take_rest at c.hear_blocks.ensures.ai)

pub returns-in-len1-up-clause-delay : goal.returns-in-len1-up-clause-delay
returns-in-len1-up-clause-delay t c =
    last_joined delays_in (flat_map delays_in) (λ y ys. refl) c.args.blocks.now c.block-item.result _ _ _ _ c.in-len1-up.len_at_least c.block-item.is c.hear.ensures.delay
    (rw take_rest at c.hear_blocks.ensures.delay)

pub returns-in-len1-up-clause-speakers : goal.returns-in-len1-up-clause-speakers
returns-in-len1-up-clause-speakers t c =
    last_joined speakers_in (flat_map speakers_in) (λ y ys. refl) c.args.blocks.now c.block-item.result _ _ _ _ c.in-len1-up.len_at_least c.block-item.is c.hear.ensures.speakers
    (rw take_rest at c.hear_blocks.ensures.speakers)

pub returns-in-len1-up-clause-audio : goal.returns-in-len1-up-clause-audio
returns-in-len1-up-clause-audio t c =
    audio_joined audio_in (flat_map audio_in) (λ y ys. refl) c.args.blocks.now c.block-item.result _ _ _ _ c.in-len1-up.len_at_least c.block-item.is c.hear.ensures.audio
    (rw take_rest at c.hear_blocks.ensures.audio)
