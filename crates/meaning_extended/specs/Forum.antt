-- What a block of the HDMI Forum means (HDMI 2.1, sections 10.3.2 and 10.3.6), of the bytes from its version on.
use Rattle.std.specs.Prelude.{ℕ, ◌*◌, ◌==◌, if◌then◌else◌, List, [], ◌∷◌, ◌++◌, take, drop, codes}
use Rattle.meaning_words.specs.Notes.{Row, row, when, below, text_between, set_words}
use Rattle.edid_layout.specs.ForumBlock.{forum_block}
use Rattle.edid_layout.specs.declared.forum_block.ForumBlock.{ForumBlock}
use Rattle.meaning_fields.specs.Fields.{words, number, hex, block_meanings}
use Rattle.meaning_fields.specs.Fields.{Row as FieldRow, row as field}

-- ---- the link

-- in units of 5 MHz; 0 reports nothing
abbrev pub clock_words : ℕ → List ℕ
clock_words clock = if clock == 0 then [] else text_between (codes ", TMDS up to ") (5 * clock) (codes " MHz")

abbrev pub link_rows : List Row
link_rows =
    row 64 (codes "read request") ∷
    row 32 (codes "cable status") ∷
    row 16 (codes "CCBPCI") ∷
    row 8 (codes "scrambling up to 340 MHz") ∷
    row 4 (codes "3D independent view") ∷
    row 2 (codes "3D dual view") ∷
    row 1 (codes "3D OSD disparity") ∷ []

-- the greatest fixed rate link: Gbit/s on each of so many lanes
abbrev pub rate_words : ℕ → List ℕ
rate_words rate =
    if rate == 0 then []
    else if rate == 1 then codes ", FRL up to 3 Gbit/s on 3 lanes"
    else if rate == 2 then codes ", FRL up to 6 Gbit/s on 3 lanes"
    else if rate == 3 then codes ", FRL up to 6 Gbit/s on 4 lanes"
    else if rate == 4 then codes ", FRL up to 8 Gbit/s on 4 lanes"
    else if rate == 5 then codes ", FRL up to 10 Gbit/s on 4 lanes"
    else if rate == 6 then codes ", FRL up to 12 Gbit/s on 4 lanes"
    else codes ", FRL of a reserved rate"

abbrev pub depth_rows : List Row
depth_rows =
    row 8 (codes "UHD VIC") ∷
    row 4 (codes "4:2:0 at 48 bits a pixel") ∷
    row 2 (codes "4:2:0 at 36 bits a pixel") ∷
    row 1 (codes "4:2:0 at 30 bits a pixel") ∷ []

abbrev pub fixed_words : ForumBlock → List ℕ
fixed_words b = rate_words b.fixed_rate ++ set_words depth_rows b.depths

abbrev pub flag_words : ForumBlock → List ℕ
flag_words b = when b.has_scdc (codes "SCDC") ++ set_words link_rows b.link

abbrev pub link_words : ForumBlock → List ℕ
link_words b = text_between (codes ", HDMI Forum version ") b.version [] ++ (clock_words b.max_rate ++ (flag_words b ++ fixed_words b))

-- ---- what pictures may do

abbrev pub picture_rows : List Row
picture_rows =
    row 2 (codes "ALLM") ∷
    row 4 (codes "FVA") ∷
    row 8 (codes "negative Mvrr") ∷
    row 16 (codes "cinema VRR") ∷
    row 32 (codes "Mdelta") ∷
    row 64 (codes "QMS") ∷
    row 1 (codes "FAPA in blanking") ∷
    row 128 (codes "FAPA end extended") ∷ []

-- 0 stands for no rate
abbrev pub greatest_words : ℕ → List ℕ
greatest_words most = if most == 0 then codes " Hz on" else text_between (codes " to ") most (codes " Hz")

-- a least rate, and what is above it
abbrev pub from_words : ℕ → ℕ → List ℕ
from_words least most = text_between (codes ", VRR from ") least [] ++ greatest_words most

-- a greatest rate without a least one
abbrev pub alone_words : ℕ → List ℕ
alone_words most = if most == 0 then [] else text_between (codes ", VRR up to ") most (codes " Hz")

abbrev pub vrr_words : ℕ → ℕ → List ℕ
vrr_words least most = if least == 0 then alone_words most else from_words least most

abbrev pub stream_rows : List Row
stream_rows =
    row 128 (codes "DSC 1.2a") ∷
    row 64 (codes "DSC in 4:2:0") ∷
    row 32 (codes "QMS TFR max") ∷
    row 16 (codes "QMS TFR min") ∷
    row 8 (codes "DSC at each 1/16 bit a pixel") ∷
    row 4 (codes "DSC at 16 bits") ∷
    row 2 (codes "DSC at 12 bits") ∷
    row 1 (codes "DSC at 10 bits") ∷ []

abbrev pub picture_words : ForumBlock → List ℕ
picture_words b = set_words picture_rows b.pictures ++ (vrr_words b.least_refresh b.greatest_refresh ++ set_words stream_rows b.streams)

-- ---- compressed streams: bytes 9 and 10

-- the greatest fixed rate link for them; slices of a line, each with a pixel clock; and how many bytes the chunks of a line have
abbrev pub compression_rows : List FieldRow
compression_rows =
    field 8 1 16 16 (words (codes ", DSC rate ") ([] ∷ codes ", DSC over FRL at 3 Gbit/s on 3 lanes" ∷ codes ", DSC over FRL at 6 Gbit/s on 3 lanes" ∷ codes ", DSC over FRL at 6 Gbit/s on 4 lanes" ∷ codes ", DSC over FRL at 8 Gbit/s on 4 lanes" ∷ codes ", DSC over FRL at 10 Gbit/s on 4 lanes" ∷ codes ", DSC over FRL at 12 Gbit/s on 4 lanes" ∷ [])) ∷
    field 8 1 1 16 (words (codes ", DSC slices ") ([] ∷ codes ", DSC in 1 slice up to 340 MHz" ∷ codes ", DSC in 2 slices up to 340 MHz" ∷ codes ", DSC in 4 slices up to 340 MHz" ∷ codes ", DSC in 8 slices up to 340 MHz" ∷ codes ", DSC in 8 slices up to 400 MHz" ∷ codes ", DSC in 12 slices up to 400 MHz" ∷ codes ", DSC in 16 slices up to 400 MHz" ∷ [])) ∷
    field 9 1 1 64 (number (codes ", DSC chunks of a line up to ") 1024 1024 (codes " bytes")) ∷
    field 9 1 64 4 (hex (codes ", reserved bits ") 64) ∷ []

-- ---- all of it

abbrev pub link_meanings : ForumBlock → List (List ℕ)
link_meanings b = below (link_words b)

abbrev pub picture_meanings : ForumBlock → List (List ℕ)
picture_meanings b = below (picture_words b)

abbrev pub compression_meanings : List ℕ → List (List ℕ)
compression_meanings p = block_meanings [] compression_rows 10 p

unfoldable pub lines_of : ForumBlock → List ℕ → List (List ℕ)
lines_of b p = link_meanings b ++ (picture_meanings b ++ compression_meanings p)

abbrev pub forum_meanings : List ℕ → List (List ℕ)
forum_meanings p = lines_of (forum_block p) p

-- ---- sink capabilities as an extended block: two reserved bytes, and the same from the version on (HDMI 2.1, section 10.3.6)

abbrev pub spare_rows : List FieldRow
spare_rows =
    field 0 1 1 256 (hex (codes ", byte 1 is ") 1) ∷
    field 1 1 1 256 (hex (codes ", byte 2 is ") 1) ∷ []

unfoldable pub spare_lines : List ℕ → List (List ℕ)
spare_lines p = block_meanings [] spare_rows 2 p

abbrev pub spare_meanings : List ℕ → List (List ℕ)
spare_meanings p = spare_lines (take 2 p)

abbrev pub sink_meanings : List ℕ → List (List ℕ)
sink_meanings p = spare_meanings p ++ forum_meanings (drop 2 p)
