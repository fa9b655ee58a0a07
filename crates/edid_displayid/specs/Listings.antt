-- Which formats a data block lists (DisplayID 1.3, section 4.4; DisplayID 2.1, section 4.3), by its tag and the byte after it.
use Rattle.std.specs.Prelude.{ℕ, ◌+◌, ◌/◌, ◌%◌, ◌==◌, Bool, true, false, ◌&&◌, ◌||◌, if◌then◌else◌, List, slice_index, Option, Some, None}
use Rattle.edid_displayid.specs.Layouts.{layout_len}
use Rattle.edid_displayid.specs.declared.layouts.Layout.{Layout}
use Rattle.edid_displayid.specs.declared.layouts.Layout.TheVariants.{TypeI, TypeII, TypeIII, TypeV, TypeVI, TypeVII, TypeIX, Dmt, Vic}
use Rattle.edid_displayid.specs.declared.listing.Listing.{Listing}

-- bits 4 to 6: the bytes of a timing past those that its type has
abbrev pub extra_of : ℕ → ℕ
extra_of revision = revision / 16 % 8

abbrev pub listed : Layout → ℕ → Option Listing
listed layout extra = Some (record { layout = layout; extra = extra })

-- the highest two bits: monitor timings, video codes of CTA-861; other codes are not known
abbrev pub by_codes : ℕ → Option Listing
by_codes revision = if revision / 64 == 0 then listed Dmt 0 else if revision / 64 == 1 then listed Vic 0 else None

-- bit 3: codes of two bytes, which are not known (own)
abbrev pub by_one_byte : ℕ → Option Listing
by_one_byte revision = if revision / 8 % 2 == 0 then by_codes revision else None

-- types I to VI, and VII to X
abbrev pub listing_of : ℕ → ℕ → Option Listing
listing_of tag revision =
    if tag == 0x03 then listed TypeI 0
    else if tag == 0x04 then listed TypeII 0
    else if tag == 0x05 then listed TypeIII 0
    else if tag == 0x06 then by_codes revision
    else if tag == 0x11 then listed TypeV 0
    else if tag == 0x13 then listed TypeVI 0
    else if tag == 0x22 then listed TypeVII (extra_of revision)
    else if tag == 0x23 then by_one_byte revision
    else if tag == 0x24 then listed TypeIX 0
    else if (tag == 0x2a) || (tag == 0x32) then listed TypeIX (extra_of revision)
    else None

-- a timing of type VI has three bytes of its size more where bit 6 of byte 3 is set
abbrev pub is_type_vi : Layout → Bool
is_type_vi TypeVI = true
is_type_vi _ = false

abbrev pub has_size : Layout → List ℕ → Bool
has_size layout q = is_type_vi layout && (slice_index q 2 / 64 % 2 == 1)

unfoldable pub listing_len : Listing → List ℕ → ℕ
listing_len l q = layout_len l.layout + l.extra + (if has_size l.layout q then 3 else 0)
