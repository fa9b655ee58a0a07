use Rattle.std.proofs.Common.{refl}
use Rattle.std.specs.List.{flat_map, list_any}
use Rattle.std.proofs.lemmas.Grind.{flat_map-append}
use Rattle.std.proofs.lemmas.List.{take_rest}
use Rattle.edid_cta.specs.Hdmi.{blocks_of}
use Rattle.edid_eld.proofs.Joined.{audio_joined, audio_stays, last_joined}
use Rattle.edid_eld.specs.Display.{audio_in, delays_in, speakers_in}
use Rattle.edid_eld.proofs.sound.Sound.+hear_all.Goals as goal

pub returns-in_default-clause-audio : goal.returns-in_default-clause-audio
returns-in_default-clause-audio t c =
    audio_stays (λ es. flat_map audio_in (flat_map blocks_of es)) refl c.args.extensions.now c.args.self.now.audio.items c.in_default.len_below c.args.self.now.fits

pub returns-in-len1-up-clause-delay : goal.returns-in-len1-up-clause-delay
returns-in-len1-up-clause-delay t c =
    last_joined (λ e. flat_map delays_in (blocks_of e)) (λ es. flat_map delays_in (flat_map blocks_of es)) (λ y ys. flat_map-append delays_in (blocks_of y) (flat_map blocks_of ys))
    c.args.extensions.now c.ext-item.result _ _ _ _ c.in-len1-up.len_at_least c.ext-item.is c.hear_ext.ensures.delay (rw take_rest at c.hear_all.ensures.delay)

pub returns-in-len1-up-clause-speakers : goal.returns-in-len1-up-clause-speakers
returns-in-len1-up-clause-speakers t c =
    last_joined (λ e. flat_map speakers_in (blocks_of e)) (λ es. flat_map speakers_in (flat_map blocks_of es)) (λ y ys. flat_map-append speakers_in (blocks_of y) (flat_map blocks_of ys))
    c.args.extensions.now c.ext-item.result _ _ _ _ c.in-len1-up.len_at_least c.ext-item.is c.hear_ext.ensures.speakers (rw take_rest at c.hear_all.ensures.speakers)

pub returns-in-len1-up-clause-audio : goal.returns-in-len1-up-clause-audio
returns-in-len1-up-clause-audio t c =
    audio_joined (λ e. flat_map audio_in (blocks_of e)) (λ es. flat_map audio_in (flat_map blocks_of es)) (λ y ys. flat_map-append audio_in (blocks_of y) (flat_map blocks_of ys))
    c.args.extensions.now c.ext-item.result _ _ _ _ c.in-len1-up.len_at_least c.ext-item.is c.hear_ext.ensures.audio (rw take_rest at c.hear_all.ensures.audio)
