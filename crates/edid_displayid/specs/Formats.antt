-- The formats that an EDID has in the form of DisplayID: those of the data blocks of a DisplayID extension (DisplayID 1.3, sections 2 and 4; DisplayID 2.1, section
-- 4), and types VII, VIII and X in data blocks of CTA-861 (CTA-861-I, sections 7.5.17 to 7.5.19).
use Rattle.std.specs.Prelude.{ℕ, ◌+◌, ◌==◌, Bool, false, true, ◌&&◌, ◌||◌, nat_le, nat_lt, min, List, [], ◌∷◌, ◌++◌, length, slice_index, take, drop, flat_map, if◌then◌else◌, Option, Some, None}
use Rattle.edid_cta.specs.declared.block.BlockKind.{BlockKind}
use Rattle.edid_cta.specs.declared.block.BlockKind.TheVariants.{Extended}
use Rattle.edid_cta.specs.declared.block.DataBlock.{DataBlock}
use Rattle.edid_cta.specs.declared.raw.Ext.{Ext}
use Rattle.edid_cta.specs.declared.raw.Ext.TheVariants.{Cta, Bare, Raw}
use Rattle.edid_displayid.specs.Layouts.{format_of}
use Rattle.edid_displayid.specs.Listings.{listing_len, listing_of}
use Rattle.edid_displayid.specs.declared.listing.Listing.{Listing}
use Rattle.edid_displayid.specs.declared.timing.TypedFormat.{TypedFormat}

-- ---- a data block

abbrev pub found : Option TypedFormat → List TypedFormat
found None = []
found (Some f) = f ∷ []

-- timings one after another, no more of them than a list has elements
unfoldable pub formats_in : List ℕ → Listing → List ℕ → List TypedFormat
formats_in [] l q = []
formats_in (c ∷ count) l q =
    if nat_lt (length q) (listing_len l q) then []
    else found (format_of l.layout (take (listing_len l q) q)) ++ formats_in count l (drop (listing_len l q) q)

abbrev pub formats_by : Option Listing → List ℕ → List TypedFormat
formats_by None p = []
formats_by (Some l) p = formats_in p l p

-- the formats of a data block, of its tag, the byte after it, and its payload
abbrev pub block_formats : ℕ → ℕ → List ℕ → List TypedFormat
block_formats tag revision p = formats_by (listing_of tag revision) p

-- ---- a DisplayID extension

-- how long a data block is: its tag, its revision, its length, and so many bytes
abbrev pub data_len : List ℕ → ℕ
data_len q = 3 + slice_index q 2

-- no whole data block stands there
abbrev pub is_cut : List ℕ → Bool
is_cut q = nat_lt (length q) 3 || nat_lt (length q) (data_len q)

-- the formats of the data block in front
unfoldable pub first_formats : List ℕ → List TypedFormat
first_formats q = block_formats (slice_index q 0) (slice_index q 1) (take (slice_index q 2) (drop 3 q))

-- data blocks one after another, up to one that is cut, no more of them than a list has elements
unfoldable pub data_formats : List ℕ → List ℕ → List TypedFormat
data_formats [] q = []
data_formats (c ∷ count) q = if is_cut q then [] else first_formats q ++ data_formats count (drop (data_len q) q)

-- the data of an extension with the tag 70: from its sixth byte on as many as its third byte says, before the checksum of the section
abbrev pub section_data : List ℕ → List ℕ
section_data b = if slice_index b 0 == 0x70 then take (min (slice_index b 2) 121) (drop 5 b) else []

abbrev pub section_formats : List ℕ → List TypedFormat
section_formats b = data_formats (section_data b) (section_data b)

-- ---- a data block of CTA-861

abbrev pub is_extended : BlockKind → Bool
is_extended Extended = true
is_extended _ = false

-- extended tags 34, 35 and 42, the byte of the revision, and what a data block of DisplayID with that tag has; of type VIII monitor timings alone
abbrev pub is_listing : List ℕ → Bool
is_listing p =
    nat_le 2 (length p) &&
    ((slice_index p 0 == 0x22) || ((slice_index p 0 == 0x2a) || ((slice_index p 0 == 0x23) && nat_lt (slice_index p 1) 64)))

abbrev pub has_formats : DataBlock → Bool
has_formats b = is_extended b.kind && is_listing b.payload.items

abbrev pub cta_formats : DataBlock → List TypedFormat
cta_formats b =
    if has_formats b then block_formats (slice_index b.payload.items 0) (slice_index b.payload.items 1) (drop 2 b.payload.items) else []

-- ---- an EDID

abbrev pub ext_formats : Ext → List TypedFormat
ext_formats (Cta c) = flat_map cta_formats c.blocks.items
ext_formats (Bare b) = []
ext_formats (Raw r) = section_formats r.bytes

-- all of them
abbrev pub typed_formats : List Ext → List TypedFormat
typed_formats xs = flat_map ext_formats xs
