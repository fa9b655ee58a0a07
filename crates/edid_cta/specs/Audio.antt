-- The audio that an amplifier passes on in place of the television's (own; CTA-861-D, 7.5.2, lays out an
-- audio data block, of short audio descriptors of three bytes each).
use Rattle.std.specs.Prelude.{◌≡◌, ℕ, ◌+◌, ◌-◌, ◌&&◌, Bool, true, false, nat_le, if◌then◌else◌, List, [], ◌∷◌, ◌++◌, length, take, drop, replicate, flat_map, find}
use Rattle.std.specs.List.{before_first}
use Rattle.edid_base.specs.Bytes.{are_zeros}
use Rattle.edid_base.specs.Check.{block_with_checksum}
use Rattle.edid_base.specs.Timing.{timing_bytes}
use Rattle.edid_cta.specs.Block.{block_bytes}
use Rattle.edid_cta.specs.Ext.{ext_bytes}
use Rattle.edid_cta.specs.Hdmi.{is_hdmi, blocks_of, address_place}
use Rattle.edid_cta.specs.Whole.{cta_bytes}
use Rattle.edid_cta.specs.declared.block.DataBlock.{DataBlock}
use Rattle.edid_cta.specs.declared.block.BlockKind.{BlockKind}
use Rattle.edid_cta.specs.declared.block.BlockKind.TheVariants.{Audio}
use Rattle.edid_cta.specs.declared.cta.Cta.{Cta as CtaValue}
use Rattle.edid_cta.specs.declared.raw.Ext.{Ext}
use Rattle.edid_cta.specs.declared.raw.Ext.TheVariants.{Cta, Bare, Raw}

abbrev pub is_audio_kind : BlockKind → Bool
is_audio_kind Audio = true
is_audio_kind _ = false

abbrev pub is_audio : DataBlock → Bool
is_audio b = is_audio_kind b.kind

-- eight channels of linear PCM, and six of AC-3
abbrev pub amplifier_audio : List ℕ
amplifier_audio = 0x26 ∷ 0x0f ∷ 0x7f ∷ 0x07 ∷ 0x15 ∷ 0x07 ∷ 0x50 ∷ []

-- the bytes of data blocks, where the first audio block is the amplifier's
abbrev pub bytes_with_audio : List DataBlock → List ℕ
bytes_with_audio [] = []
bytes_with_audio (b ∷ bs) = if is_audio b then amplifier_audio ++ flat_map block_bytes bs else block_bytes b ++ bytes_with_audio bs

-- by how many bytes the data blocks grow, and by how many they shrink
abbrev pub growth : List DataBlock → ℕ
growth blocks = length (bytes_with_audio blocks) - length (flat_map block_bytes blocks)

abbrev pub shrinkage : List DataBlock → ℕ
shrinkage blocks = length (flat_map block_bytes blocks) - length (bytes_with_audio blocks)

-- so many zeros stand at the end
abbrev pub ends_in_zeros : ℕ → List ℕ → Bool
ends_in_zeros n bytes = nat_le n (length bytes) && are_zeros (drop (length bytes - n) bytes)

-- a tail without so many of its last bytes, and with so many zeros more
abbrev pub tail_with : ℕ → ℕ → List ℕ → List ℕ
tail_with less more tail = take (length tail - less) tail ++ replicate more 0

abbrev pub has_room : CtaValue → Bool
has_room c = ends_in_zeros (growth c.blocks.items) c.tail.items

-- what follows the data blocks
abbrev pub bytes_after_blocks : CtaValue → List ℕ
bytes_after_blocks c = flat_map timing_bytes c.timings.items ++ tail_with (growth c.blocks.items) (shrinkage c.blocks.items) c.tail.items

-- the 128 bytes with the amplifier's audio, where there is room; what follows it moves, and the checksum is mended
abbrev pub heard_cta : CtaValue → List ℕ
heard_cta c =
    if has_room c then block_with_checksum (2 ∷ 3 ∷ (length (bytes_with_audio c.blocks.items) + 4) ∷ c.flags ∷ (bytes_with_audio c.blocks.items ++ bytes_after_blocks c))
    else cta_bytes c

abbrev pub heard_bytes : Ext → List ℕ
heard_bytes (Cta c) = heard_cta c
heard_bytes (Bare b) = ext_bytes (Bare b)
heard_bytes (Raw r) = ext_bytes (Raw r)

-- where the address of the first HDMI block stands then
abbrev pub place_in : CtaValue → ℕ
place_in c = if has_room c then 8 + length (bytes_with_audio (before_first is_hdmi c.blocks.items)) else address_place c.blocks.items

abbrev pub heard_place : Ext → ℕ
heard_place (Cta c) = place_in c
heard_place (Bare b) = address_place (blocks_of (Bare b))
heard_place (Raw r) = address_place (blocks_of (Raw r))

-- nothing changes
pub record IsUnheard (c : CtaValue) : Type 0 where
  pub bytes : cta_bytes c ≡ heard_cta c
  pub place : address_place c.blocks.items ≡ place_in c

-- a block with the amplifier's audio, and the HDMI block that was there
pub record IsHeard (c heard : CtaValue) : Type 0 where
  pub bytes : cta_bytes heard ≡ heard_cta c
  pub hdmi : find is_hdmi heard.blocks.items ≡ find is_hdmi c.blocks.items
  pub place : address_place heard.blocks.items ≡ place_in c
