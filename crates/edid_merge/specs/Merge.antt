-- The EDID that a receiver answers with, of a display's and of its own (own): as a relation of the three.
use Rattle.std.specs.Prelude.{◌≡◌, ℕ, ◌+◌, ◌-◌, ◌*◌, ◌/◌, ◌%◌, ◌<◌, ◌==◌, Bool, true, false, nat_lt, if◌then◌else◌, List, [], ◌∷◌, ◌++◌, length, replicate, count_by, flat_map}
use Rattle.edid_base.specs.Check.{block_with_checksum}
use Rattle.edid_base.specs.Timing.{timing_bytes}
use Rattle.edid_base.specs.declared.timing.Timing.{Timing}
use Rattle.edid_core.specs.Bytes.{edid_bytes, IsRefused}
use Rattle.edid_core.specs.declared.edid.Edid.{Edid as EdidValue}
use Rattle.edid_cta.specs.Ext.{ext_bytes}
use Rattle.edid_cta.specs.declared.block.DataBlock.{DataBlock}
use Rattle.edid_cta.specs.declared.raw.Ext.{Ext}
use Rattle.edid_cta.specs.declared.raw.Ext.TheVariants.{Cta, Bare, Raw}
use Rattle.edid_merge.specs.Bases.{IsMergedBase}
use Rattle.edid_merge.specs.Blocks.{merged_blocks}
use Rattle.edid_merge.specs.declared.repeater.MergeError.{MergeError}
use Rattle.edid_merge.specs.declared.repeater.MergeError.TheVariants.{Display, Receiver, Long}
use Rattle.edid_merge.specs.declared.repeater.Unfit.{Unfit}
use Rattle.edid_merge.specs.declared.repeater.Unfit.TheVariants.{Edid, Cta as NotOne}
use Rattle.edid_merge.specs.declared.table.Table.{Table}
use Rattle.edid_merge.specs.declared.table.Whose.{Whose}
use Rattle.edid_merge.specs.declared.table.Whose.TheVariants.{Keep, Own}

-- ---- the extension of CTA-861

abbrev pub is_full : Ext → Bool
is_full (Cta c) = true
is_full (Bare b) = false
is_full (Raw r) = false

-- one extension has data blocks, and no other
abbrev pub has_one_cta : List Ext → Bool
has_one_cta xs = count_by is_full xs == 1

-- its data blocks, flags and timings
abbrev pub cta_blocks : List Ext → List DataBlock
cta_blocks [] = []
cta_blocks (Cta c ∷ xs) = c.blocks.items
cta_blocks (Bare b ∷ xs) = cta_blocks xs
cta_blocks (Raw r ∷ xs) = cta_blocks xs

abbrev pub cta_flags : List Ext → ℕ
cta_flags [] = 0
cta_flags (Cta c ∷ xs) = c.flags
cta_flags (Bare b ∷ xs) = cta_flags xs
cta_flags (Raw r ∷ xs) = cta_flags xs

abbrev pub cta_timings : List Ext → List Timing
cta_timings [] = []
cta_timings (Cta c ∷ xs) = c.timings.items
cta_timings (Bare b ∷ xs) = cta_timings xs
cta_timings (Raw r ∷ xs) = cta_timings xs

-- bit 6 of the flags, basic audio, is of the one whose audio it is (CTA-861-G, section 7.5)
abbrev pub merged_flags : Whose → ℕ → ℕ → ℕ
merged_flags Keep display own = display
merged_flags Own display own = display / 128 * 128 + own / 64 % 2 * 64 + display % 64

-- as many timings as there is room for
abbrev pub fitting : ℕ → List Timing → List ℕ
fitting room [] = []
fitting room (t ∷ ts) = if nat_lt room 18 then [] else timing_bytes t ++ fitting (room - 18) ts

-- data blocks, the timings that have room after them, and zeros
abbrev pub with_zeros : List ℕ → List ℕ
with_zeros body = body ++ replicate (123 - length body) 0

abbrev pub with_timings : List ℕ → List Timing → List ℕ
with_timings blocks timings = with_zeros (blocks ++ fitting (123 - length blocks) timings)

unfoldable pub cta_of : ℕ → List ℕ → List Timing → List ℕ
cta_of flags blocks timings = block_with_checksum (2 ∷ 3 ∷ (length blocks + 4) ∷ flags ∷ with_timings blocks timings)

-- the bytes of the data blocks, and of the extension that has them
abbrev pub blocks_for : Table → List Ext → List Ext → List ℕ
blocks_for t display own = merged_blocks t (cta_blocks display) (cta_blocks own)

abbrev pub cta_for : Table → List Ext → List Ext → List ℕ
cta_for t display own = cta_of (merged_flags t.audio (cta_flags display) (cta_flags own)) (blocks_for t display own) (cta_timings display)

-- it stands in the place of the display's; the other extensions stay
abbrev pub with_cta : List ℕ → List Ext → List ℕ
with_cta cta [] = []
with_cta cta (Cta c ∷ xs) = cta ++ with_cta cta xs
with_cta cta (Bare b ∷ xs) = ext_bytes (Bare b) ++ with_cta cta xs
with_cta cta (Raw r ∷ xs) = ext_bytes (Raw r) ++ with_cta cta xs

-- ---- the whole

-- data blocks have room in an extension
abbrev pub HasRoom : Table → EdidValue → EdidValue → Type 0
HasRoom t display own = length (blocks_for t display.extensions.items own.extensions.items) < 124

pub record IsMerged (t : Table) (display own merged : EdidValue) : Type 0 where
  pub base : IsMergedBase t.product display.base own.base merged.base
  pub room : HasRoom t display own
  pub extensions : flat_map ext_bytes merged.extensions.items ≡ with_cta (cta_for t display.extensions.items own.extensions.items) display.extensions.items

-- bytes spell an EDID whose data blocks stand in one extension
abbrev pub IsOne : List ℕ → EdidValue → Type 0
IsOne bytes e = (edid_bytes e ≡ bytes) × (has_one_cta e.extensions.items ≡ true)

-- why nothing is made of bytes: they spell none, or one in which they do not
abbrev pub IsUnfit : List ℕ → Unfit → Type 0
IsUnfit bytes (Edid cause) = IsRefused bytes cause
IsUnfit bytes NotOne = (e : EdidValue) × (edid_bytes e ≡ bytes) × (has_one_cta e.extensions.items ≡ false)

-- why there is none: nothing is made of the display's bytes, or else of the receiver's, or else the blocks are too long
abbrev pub IsNoAnswer : Table → List ℕ → List ℕ → MergeError → Type 0
IsNoAnswer t display own (Display cause) = IsUnfit display cause
IsNoAnswer t display own (Receiver cause) = ((d : EdidValue) × IsOne display d) × IsUnfit own cause
IsNoAnswer t display own Long = (d : EdidValue) × (o : EdidValue) × IsOne display d × IsOne own o × ¬ HasRoom t d o
