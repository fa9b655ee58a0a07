-- What the first bytes of an extension report that is kept as it is: counts, versions and interfaces (VESA VTB-EXT, DI-EXT and LS-EXT;
-- E-EDID Release A, section 4.1; CTA-861, section 7).
use Rattle.std.specs.Prelude.{ℕ, ◌==◌, if◌then◌else◌, List, [], ◌∷◌, codes, slice_index}
use Rattle.meaning_fields.specs.Fields.{Row, row, word, words, number, above, hex}

-- the counts of a video timing block (VESA VTB-EXT, version 1)
unfoldable pub timing_rows : List Row
timing_rows =
    row 1 1 1 256 (number (codes ", version ") 1 0 []) ∷
    row 2 1 1 256 (above (codes ", ") 1 (codes " detailed timings")) ∷
    row 3 1 1 256 (above (codes ", ") 1 (codes " CVT codes")) ∷
    row 4 1 1 256 (above (codes ", ") 1 (codes " standard timings")) ∷ []

-- the interface and the pixels of display information (VESA DI-EXT, version 1: digital interface, display device)
unfoldable pub device_rows : List Row
device_rows =
    row 1 1 1 256 (number (codes ", version ") 1 0 []) ∷
    row 2 1 1 256 (words (codes ", interface ") (codes ", analog" ∷ codes ", DVI" ∷ codes ", DVI of one link" ∷ codes ", DVI of two links for resolution" ∷ codes ", DVI of two links for colour" ∷ codes ", DVI for consumer electronics" ∷ codes ", Plug & Display" ∷ codes ", DFP" ∷ codes ", OpenLDI of one link" ∷ codes ", OpenLDI of two links" ∷ codes ", OpenLDI for consumer electronics" ∷ [])) ∷
    row 9 1 1 256 (above (codes ", clock from ") 1 (codes " MHz")) ∷
    row 10 2 1 65536 (above (codes ", clock up to ") 1 (codes " MHz")) ∷
    row 17 1 1 256 (above (codes ", pitch ") 1 (codes " hundredths of 1 mm")) ∷
    row 18 1 1 256 (above (codes " by ") 1 (codes " hundredths of 1 mm")) ∷
    row 19 1 128 2 (word (codes ", fixed pixel format")) ∷
    row 19 1 2 2 (word (codes ", DDC/CI")) ∷ []

-- the versions of localized strings (VESA LS-EXT)
unfoldable pub strings_rows : List Row
strings_rows =
    row 1 1 1 256 (number (codes ", version ") 1 0 []) ∷
    row 2 1 1 256 (number (codes ".") 1 0 []) ∷
    row 3 1 16 16 (number (codes ", Unicode ") 1 0 []) ∷
    row 3 1 1 16 (number (codes ".") 1 0 []) ∷
    row 4 1 1 256 (number (codes ".") 1 0 []) ∷ []

-- the tags that a block map lists of the blocks 2 to 4 (E-EDID A, section 4.1)
unfoldable pub map_rows : List Row
map_rows =
    row 1 1 1 256 (hex (codes ", block 2 of tag ") 1) ∷
    row 2 1 1 256 (hex (codes ", block 3 of tag ") 1) ∷
    row 3 1 1 256 (hex (codes ", block 4 of tag ") 1) ∷ []

-- a CTA block of revision 1 (CTA-861, section 7)
unfoldable pub cta_of_1_rows : List Row
cta_of_1_rows =
    row 2 1 1 256 (above (codes ", timings from byte ") 1 []) ∷ []

-- a CTA block of revision 2 and of those that are not known
unfoldable pub cta_of_2_rows : List Row
cta_of_2_rows =
    row 2 1 1 256 (above (codes ", timings from byte ") 1 []) ∷
    row 3 1 128 2 (word (codes ", underscans")) ∷
    row 3 1 64 2 (word (codes ", basic audio")) ∷
    row 3 1 32 2 (word (codes ", YCbCr 4:4:4")) ∷
    row 3 1 16 2 (word (codes ", YCbCr 4:2:2")) ∷
    row 3 1 1 16 (above (codes ", ") 1 (codes " native timings")) ∷ []

abbrev pub cta_rows : ℕ → List Row
cta_rows revision = if revision == 1 then cta_of_1_rows else if revision == 3 then [] else cta_of_2_rows

-- by the extension's tag
abbrev pub head_rows : List ℕ → List Row
head_rows p =
    if slice_index p 0 == 0x02 then cta_rows (slice_index p 1)
    else if slice_index p 0 == 0x10 then timing_rows
    else if slice_index p 0 == 0x40 then device_rows
    else if slice_index p 0 == 0x50 then strings_rows
    else if slice_index p 0 == 0xf0 then map_rows
    else []
