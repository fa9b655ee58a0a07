-- The speakers of an amplifier (own): six, and two behind, for eight channels of linear PCM (CTA-861-G, section 7.5.3). They stand in
-- the extension that has the amplifier's audio, the first one that has an HDMI block.
use Rattle.std.specs.Prelude.{◌≡◌, ℕ, ◌+◌, Bool, true, false, ◌&&◌, ◌||◌, not, nat_lt, if◌then◌else◌, List, [], ◌∷◌, ◌++◌, length, flat_map, filter}
use Rattle.std.specs.List.{list_any}
use Rattle.edid_base.specs.Bytes.{are_zeros}
use Rattle.edid_base.specs.Check.{block_with_checksum}
use Rattle.edid_base.specs.Timing.{timing_bytes}
use Rattle.edid_core.specs.Address.{has_address}
use Rattle.edid_core.specs.Bytes.{edid_bytes, IsRefused}
use Rattle.edid_core.specs.declared.edid.Edid.{Edid as EdidValue}
use Rattle.edid_cta.specs.Audio.{is_audio}
use Rattle.edid_cta.specs.Block.{block_bytes}
use Rattle.edid_cta.specs.Ext.{ext_bytes}
use Rattle.edid_cta.specs.declared.block.DataBlock.{DataBlock}
use Rattle.edid_cta.specs.declared.cta.Cta.{Cta as CtaValue}
use Rattle.edid_cta.specs.declared.raw.Ext.{Ext}
use Rattle.edid_cta.specs.declared.raw.Ext.TheVariants.{Cta, Bare, Raw}
use Rattle.edid_merge.specs.Merge.{with_zeros}
use Rattle.edid_merge.specs.Subjects.{is_of}
use Rattle.edid_merge.specs.declared.speakers.SpeakersError.{SpeakersError}
use Rattle.edid_merge.specs.declared.speakers.SpeakersError.TheVariants.{Edid, NoRoom}
use Rattle.edid_merge.specs.declared.subject.Subject.TheVariants.{Speakers}

-- front left and right, low frequencies, front centre, back left and right, rear left and right of the centre
abbrev pub own_speakers : List ℕ
own_speakers = 0x83 ∷ 0x4f ∷ 0 ∷ 0 ∷ []

-- data blocks but those of speakers
abbrev pub mute_blocks : List DataBlock → List ℕ
mute_blocks bs = flat_map block_bytes (filter (λ b. not (is_of Speakers b)) bs)

-- the amplifier's speakers stand after the first audio block, and no others
abbrev pub spoken_after : List DataBlock → List ℕ
spoken_after [] = []
spoken_after (b ∷ bs) =
    if is_audio b then block_bytes b ++ (own_speakers ++ mute_blocks bs)
    else if is_of Speakers b then spoken_after bs
    else block_bytes b ++ spoken_after bs

-- an extension with an audio block has them; zeros after the timings make up for it
abbrev pub has_sound : CtaValue → Bool
has_sound c = list_any is_audio c.blocks.items

abbrev pub spoken_body : CtaValue → List ℕ
spoken_body c = spoken_after c.blocks.items ++ flat_map timing_bytes c.timings.items

abbrev pub has_room : CtaValue → Bool
has_room c = are_zeros c.tail.items && nat_lt (length (spoken_body c)) 124

abbrev pub spoken_cta : CtaValue → List ℕ
spoken_cta c = block_with_checksum (2 ∷ 3 ∷ (length (spoken_after c.blocks.items) + 4) ∷ c.flags ∷ with_zeros (spoken_body c))

abbrev pub spoken_ext : Ext → List ℕ
spoken_ext (Cta c) = if has_sound c then spoken_cta c else ext_bytes (Cta c)
spoken_ext (Bare b) = ext_bytes (Bare b)
spoken_ext (Raw r) = ext_bytes (Raw r)

abbrev pub fits_ext : Ext → Bool
fits_ext (Cta c) = not (has_sound c) || has_room c
fits_ext (Bare b) = true
fits_ext (Raw r) = true

-- the bytes of extensions, of which the first one with an HDMI block has the speakers, and whether they have room there
abbrev pub spoken_extensions : List Ext → List ℕ
spoken_extensions [] = []
spoken_extensions (x ∷ xs) = if has_address x then spoken_ext x ++ flat_map ext_bytes xs else ext_bytes x ++ spoken_extensions xs

abbrev pub fits : List Ext → Bool
fits [] = true
fits (x ∷ xs) = if has_address x then fits_ext x else fits xs

-- the EDID of some bytes with the amplifier's speakers
pub record IsSpokenOf (e spoken : EdidValue) : Type 0 where
  pub room : fits e.extensions.items ≡ true
  pub base : spoken.base ≡ e.base
  pub extensions : flat_map ext_bytes spoken.extensions.items ≡ spoken_extensions e.extensions.items

abbrev pub IsSpoken : List ℕ → List ℕ → Type 0
IsSpoken bytes new = (e : EdidValue) × (spoken : EdidValue) × (edid_bytes e ≡ bytes) × IsSpokenOf e spoken × (edid_bytes spoken ≡ new)

-- why there is none
abbrev pub IsUnspoken : List ℕ → SpeakersError → Type 0
IsUnspoken bytes (Edid cause) = IsRefused bytes cause
IsUnspoken bytes NoRoom = (e : EdidValue) × (edid_bytes e ≡ bytes) × (fits e.extensions.items ≡ false)
