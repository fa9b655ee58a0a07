-- The HDMI vendor specific data block (HDMI VSDB: HDMI 1.4, section 8.3.2; a vendor specific data block of CTA-861, 7.5),
-- and the physical address in it (HDMI 1.4, section 8.7.2).
use Rattle.std.specs.Prelude.{ℕ, ◌+◌, ◌==◌, Bool, true, false, ◌&&◌, nat_le, Option, option_map, List, [], length, slice_index, slice_set, take, flat_map, find}
use Rattle.std.specs.List.{before_first}
use Rattle.edid_cta.specs.Block.{block_bytes}
use Rattle.edid_base.specs.Check.{block_with_checksum}
use Rattle.edid_cta.specs.declared.block.DataBlock.{DataBlock}
use Rattle.edid_cta.specs.declared.block.BlockKind.{BlockKind}
use Rattle.edid_cta.specs.declared.block.BlockKind.TheVariants.{Vendor}
use Rattle.text_core.specs.declared.phys.Phys.{Phys}
use Rattle.edid_cta.specs.declared.raw.Ext.{Ext}
use Rattle.edid_cta.specs.declared.raw.Ext.TheVariants.{Cta, Bare, Raw}

-- the identifier of HDMI, 000C03, its lowest byte first, and two bytes and more after it
abbrev pub has_identifier : List ℕ → Bool
has_identifier payload =
    nat_le 5 (length payload) && (slice_index payload 0 == 0x03) && (slice_index payload 1 == 0x0c) && (slice_index payload 2 == 0x00)

abbrev pub is_vendor : BlockKind → Bool
is_vendor Vendor = true
is_vendor _ = false

-- a vendor block with that identifier
abbrev pub is_hdmi : DataBlock → Bool
is_hdmi b = is_vendor b.kind && has_identifier b.payload.items

-- the two bytes after the identifier
abbrev pub phys_at : List ℕ → Phys
phys_at payload = record { high = slice_index payload 3; low = slice_index payload 4 }

abbrev pub blocks_of : Ext → List DataBlock
blocks_of (Cta c) = c.blocks.items
blocks_of (Bare b) = []
blocks_of (Raw r) = []

-- the address in the first HDMI block, where there is one
abbrev pub address_of : Ext → Option Phys
address_of e = option_map (λ b. phys_at b.payload.items) (find is_hdmi (blocks_of e))

-- where the address of the first HDMI block stands: after four bytes, the data blocks before it, its first byte and the
-- identifier
abbrev pub address_place : List DataBlock → ℕ
address_place blocks = 8 + length (flat_map block_bytes (before_first is_hdmi blocks))

-- a block with another address at a place, and its checksum mended (own)
abbrev pub bytes_with_address : List ℕ → ℕ → Phys → List ℕ
bytes_with_address bytes place address = block_with_checksum (take 127 (slice_set (slice_set bytes place address.high) (place + 1) address.low))
