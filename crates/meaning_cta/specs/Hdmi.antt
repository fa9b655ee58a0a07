-- What an HDMI block, the vendor specific data block of HDMI (VSDB), means (HDMI 1.4, section 8.3.2), of the bytes after
-- its physical address.
use Rattle.std.specs.Prelude.{ℕ, ◌+◌, ◌*◌, ◌==◌, nat_le, Bool, if◌then◌else◌, Option, Some, None, List, [], ◌∷◌, ◌++◌, length, map, codes}
use Rattle.meaning_words.specs.Notes.{Row, row, when, below, text_between, set_words, spaced_words, rest_words}
use Rattle.hex.specs.Hex.{encode_lower}
use Rattle.meaning_words.specs.Videos.{code_text}
use Rattle.edid_layout.specs.HdmiBlock.{code_of_hdmi, hdmi_block, listed_codes, stereo_bytes, left_bytes, video_bytes}
use Rattle.edid_layout.specs.declared.hdmi_block.Delay.{Delay}
use Rattle.edid_layout.specs.declared.hdmi_block.Delay.TheVariants.{Unknown, Time, Reserved, Absent}
use Rattle.edid_layout.specs.declared.hdmi_block.Latencies.{Latencies}
use Rattle.edid_layout.specs.declared.hdmi_block.HdmiVideo.{HdmiVideo}
use Rattle.edid_layout.specs.declared.hdmi_block.HdmiBlock.{HdmiBlock}
use Rattle.meaning_cta.specs.Stereo.{stereo_meanings}

-- ---- capabilities

-- bits a pixel of deep colour
abbrev pub depth_rows : List Row
depth_rows =
    row 4 (codes "48") ∷
    row 2 (codes "36") ∷
    row 1 (codes "30") ∷ []

-- each may be there in YCbCr 4:4:4 too
abbrev pub also_text : Bool → List ℕ
also_text also = if also then codes "bits a pixel also in 4:4:4" else codes "bits a pixel"

abbrev pub depth_text : ℕ → Bool → List ℕ
depth_text depths also = if depths == 0 then when also (codes "deep colour in 4:4:4") else codes ", " ++ (spaced_words depth_rows depths ++ also_text also)

-- in units of 5 MHz; 0 reports nothing
abbrev pub tmds_text : ℕ → List ℕ
tmds_text clock = if clock == 0 then [] else text_between (codes ", TMDS up to ") (5 * clock) (codes " MHz")

abbrev pub content_rows : List Row
content_rows =
    row 1 (codes "graphics content") ∷
    row 2 (codes "photo content") ∷
    row 4 (codes "cinema content") ∷
    row 8 (codes "game content") ∷
    row 16 (codes "reserved bit 4") ∷ []

-- reserved bits of a byte of flags
abbrev pub spare_text : ℕ → List ℕ
spare_text bits = if bits == 0 then [] else codes ", reserved bits " ++ encode_lower (bits ∷ [])

abbrev pub capability_words : HdmiBlock → List ℕ
capability_words b =
    when b.supports_ai (codes "AI") ++ (depth_text b.deep_colours b.has_deep_444 ++ (when b.has_dual_link (codes "dual-link DVI") ++ (spare_text b.reserved ++ (tmds_text b.max_clock ++ set_words content_rows b.contents))))

abbrev pub capability_meanings : HdmiBlock → List (List ℕ)
capability_meanings b = below (capability_words b)

-- ---- latencies

abbrev pub time_text : ℕ → List ℕ
time_text time = text_between (codes " ") time (codes " ms")

abbrev pub delay_words : List ℕ → List ℕ → Delay → List ℕ
delay_words name none Unknown = name ++ codes " unknown"
delay_words name none (Time time) = name ++ time_text time
delay_words name none Reserved = name ++ codes " reserved"
delay_words name none Absent = none

abbrev pub latency_words : List ℕ → List ℕ → Latencies → List ℕ
latency_words name none l = delay_words name none l.video ++ delay_words (codes ", audio latency") (codes ", no audio") l.audio

abbrev pub latency_meanings : List ℕ → List ℕ → Option Latencies → List (List ℕ)
latency_meanings name none None = []
latency_meanings name none (Some l) = below (latency_words name none l)

abbrev pub plain_latencies : Option Latencies → List (List ℕ)
plain_latencies l = latency_meanings (codes ", video latency") (codes ", no video") l

abbrev pub interlaced_latencies : Option Latencies → List (List ℕ)
interlaced_latencies l = latency_meanings (codes ", interlaced video latency") (codes ", no interlaced video") l

-- ---- formats of HDMI's own codes, and 3D

abbrev pub hdmi_text : ℕ → List ℕ
hdmi_text hdmi = text_between (codes "HDMI ") hdmi (codes ": ") ++ code_text (code_of_hdmi hdmi)

-- what the sizes of the base block are
abbrev pub image_text : ℕ → List ℕ
image_text size =
    if size == 1 then codes ", size right in its aspect alone"
    else if size == 2 then codes ", size to 1 cm"
    else if size == 3 then codes ", size to 5 cm"
    else []

-- which codes the structures of 3D below are of
abbrev pub multi_text : ℕ → List ℕ
multi_text form =
    if form == 1 then codes ", 3D of the first 16 codes"
    else if form == 2 then codes ", 3D of some of the first 16 codes"
    else if form == 3 then codes ", 3D in a reserved form"
    else []

abbrev pub video_words : HdmiVideo → List ℕ
video_words v = when v.has_stereo (codes "3D") ++ (multi_text v.multi ++ (image_text v.image_size ++ spare_text v.reserved))

abbrev pub left_meanings : List ℕ → List (List ℕ)
left_meanings p = below (rest_words p)

-- the counts of codes and of bytes of 3D, where they count more than there is
abbrev pub format_count : ℕ → List ℕ
format_count formats = text_between (codes ", counts ") formats (codes " codes and ")

abbrev pub stereo_count : ℕ → List ℕ
stereo_count bytes = text_between [] bytes (codes " bytes of 3D")

abbrev pub counts_text : ℕ → ℕ → List ℕ
counts_text formats bytes = format_count formats ++ stereo_count bytes

abbrev pub over_words : HdmiVideo → List ℕ → List ℕ
over_words v p = if nat_le (2 + v.codes + v.stereo) (length p) then [] else counts_text v.codes v.stereo

abbrev pub flag_part : HdmiVideo → List ℕ → List (List ℕ)
flag_part v p = below (video_words v ++ over_words v p)

abbrev pub code_part : HdmiVideo → List ℕ → List (List ℕ)
code_part v p = map hdmi_text (listed_codes v p)

abbrev pub stereo_part : List ℕ → HdmiVideo → List ℕ → List (List ℕ)
stereo_part svds v p = stereo_meanings svds v.multi (stereo_bytes v p)

abbrev pub spare_part : HdmiVideo → List ℕ → List (List ℕ)
spare_part v p = left_meanings (left_bytes v p)

unfoldable pub video_meanings : List ℕ → HdmiVideo → List ℕ → List (List ℕ)
video_meanings svds v p = flag_part v p ++ (code_part v p ++ (stereo_part svds v p ++ spare_part v p))

abbrev pub video_part : List ℕ → Option HdmiVideo → List ℕ → List (List ℕ)
video_part svds None p = left_meanings p
video_part svds (Some v) p = video_meanings svds v p

-- ---- all of it

unfoldable pub block_meanings : List ℕ → HdmiBlock → List ℕ → List (List ℕ)
block_meanings svds b p =
    capability_meanings b ++ (plain_latencies b.latencies ++ (interlaced_latencies b.interlaced_latencies ++ video_part svds b.video p))

-- of the video codes of the EDID too, by whose places 3D is told
unfoldable pub hdmi_meanings : List ℕ → List ℕ → List (List ℕ)
hdmi_meanings svds p = block_meanings svds (hdmi_block p) (video_bytes p)
