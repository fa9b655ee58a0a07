-- Data blocks without the formats that the link of an EDID does not carry (own): the codes of video blocks (CTA-861-G, section 7.5.1), those
-- in 4:2:0 alone (section 7.5.10), the map of those that are there in 4:2:0 too (section 7.5.11), what an HDMI block says of formats
-- (HDMI 1.4b, section 8.3.2), and formats of DisplayID (CTA-861-I, sections 7.5.17 to 7.5.19).
use Rattle.std.specs.Prelude.{ℕ, zero, suc, ◌+◌, ◌-◌, ◌*◌, ◌/◌, ◌%◌, ◌==◌, Bool, true, false, ◌&&◌, ◌||◌, not, nat_lt, if◌then◌else◌, List, [], ◌∷◌, length, take, drop, slice_index, map, filter, Option, Some, None}
use Rattle.std.specs.List.{list_any}
use Rattle.edid_cta.specs.Hdmi.{is_hdmi}
use Rattle.edid_cta.specs.declared.block.BlockKind.{BlockKind}
use Rattle.edid_cta.specs.declared.block.DataBlock.{DataBlock}
use Rattle.edid_cta.specs.declared.raw.Ext.{Ext}
use Rattle.edid_displayid.specs.Formats.{cta_formats}
use Rattle.edid_layout.specs.HdmiBlock.{code_of_hdmi, video_place}
use Rattle.edid_layout.specs.declared.hdmi_block.HdmiVideo.{HdmiVideo}
use Rattle.rules_contents.specs.Contents.{has_extended_tag}
use Rattle.rules_link.specs.Offers.{is_code_beyond, is_typed_beyond}
use Rattle.rules_rates.specs.Maps.{is_marked}
use Rattle.rules_values.specs.BlockParts.{is_video_kind, hdmi_of, hdmi_codes}
use Rattle.rules_values.specs.VideoCodes.{code_of, svds_of}

-- a block by its kind and its bytes
abbrev pub Part : Type 0
Part = BlockKind × List ℕ

abbrev pub part_of : DataBlock → Part
part_of b = (b.kind, b.payload.items)

-- ---- codes

-- a byte of a video block whose format the link carries
abbrev pub keeps : List Ext → Bool → ℕ → Bool
keeps xs halved svd = not (is_code_beyond xs halved (code_of svd))

abbrev pub kept_codes : List Ext → Bool → List ℕ → List ℕ
kept_codes xs halved svds = filter (keeps xs halved) svds

-- the link does not carry one of them
abbrev pub loses : List Ext → List ℕ → Bool
loses xs svds = list_any (λ svd. is_code_beyond xs false (code_of svd)) svds

-- ---- the map: a bit for each code by its place, the lowest of the first byte first

abbrev pub mark : Bool → ℕ
mark true = 1
mark false = 0

-- whether the map marks each of the codes that are kept, which stand from a place on
abbrev pub kept_marks : List Ext → List ℕ → ℕ → List ℕ → List ℕ
kept_marks xs bytes place [] = []
kept_marks xs bytes place (svd ∷ svds) =
    if keeps xs false svd then mark (is_marked bytes place) ∷ kept_marks xs bytes (place + 1) svds else kept_marks xs bytes (place + 1) svds

-- a mark by its place; none stands past the last
abbrev pub mark_at : List ℕ → ℕ → ℕ
mark_at marks place = slice_index marks place % 2

-- the byte of eight marks from a place on
abbrev pub marks_byte : List ℕ → ℕ → ℕ
marks_byte marks place =
    mark_at marks place + mark_at marks (place + 1) * 2 + mark_at marks (place + 2) * 4 + mark_at marks (place + 3) * 8
    + mark_at marks (place + 4) * 16 + mark_at marks (place + 5) * 32 + mark_at marks (place + 6) * 64 + mark_at marks (place + 7) * 128

-- so many bytes of them
abbrev pub packed : ℕ → List ℕ → ℕ → List ℕ
packed zero marks place = []
packed (suc count) marks place = marks_byte marks place ∷ packed count marks (place + 8)

-- the map of the codes that are kept, as long as it was: without bytes it is one of all codes
abbrev pub fitted_map : List Ext → List ℕ → List ℕ → List ℕ
fitted_map xs svds bytes = packed (length bytes) (kept_marks xs bytes 0 svds) 0

-- ---- HDMI

-- 3D by the places of the codes of video blocks
abbrev pub has_places : Option HdmiVideo → Bool
has_places None = false
has_places (Some v) = nat_lt 0 v.multi || nat_lt 0 v.stereo

-- the link does not carry a format of HDMI's own, or lacks a code by whose place there is 3D
abbrev pub is_cut : List Ext → List ℕ → DataBlock → Bool
is_cut xs svds b =
    list_any (λ code. is_code_beyond xs false (code_of_hdmi code)) (hdmi_codes b.payload.items) ||
    (loses xs svds && has_places (hdmi_of b).video)

-- the payload of an HDMI block up to what it says of formats, of which bit 5 of byte 8 says that it is there
abbrev pub without_video : List ℕ → List ℕ
without_video (a ∷ b ∷ c ∷ d ∷ e ∷ f ∷ g ∷ presence ∷ rest) =
    a ∷ b ∷ c ∷ d ∷ e ∷ f ∷ g ∷ (presence / 64 * 64 + presence % 32) ∷ take (video_place presence - 3) rest
without_video p = p

-- ---- all of them

abbrev pub fitted_bytes : List Ext → List ℕ → DataBlock → List ℕ
fitted_bytes xs svds b =
    if is_video_kind b.kind then kept_codes xs false b.payload.items
    else if has_extended_tag 0x0e b then 0x0e ∷ kept_codes xs true (drop 1 b.payload.items)
    else if has_extended_tag 0x0f b && loses xs svds then 0x0f ∷ fitted_map xs svds (drop 1 b.payload.items)
    else if is_hdmi b && is_cut xs svds b then without_video b.payload.items
    else b.payload.items

abbrev pub fitted : List Ext → List ℕ → DataBlock → Part
fitted xs svds b = (b.kind, fitted_bytes xs svds b)

-- the bytes of a block of codes before the first code: none, or its tag
abbrev pub codes_place : DataBlock → ℕ
codes_place b = if is_video_kind b.kind then 0 else 1

abbrev pub lists_codes : DataBlock → Bool
lists_codes b = is_video_kind b.kind || has_extended_tag 0x0e b

-- its last code goes
abbrev pub is_emptied : List Ext → List ℕ → DataBlock → Bool
is_emptied xs svds b = lists_codes b && nat_lt (codes_place b) (length b.payload.items) && (length (fitted_bytes xs svds b) == codes_place b)

-- it lists a format of DisplayID that the link does not carry
abbrev pub lists_beyond : List Ext → DataBlock → Bool
lists_beyond xs b = list_any (is_typed_beyond xs) (cta_formats b)

-- a block stays but for these two
abbrev pub stays : List Ext → List ℕ → DataBlock → Bool
stays xs svds b = not (lists_beyond xs b || is_emptied xs svds b)

-- the places of codes are those among all video blocks
abbrev pub fitted_blocks : List Ext → List DataBlock → List Part
fitted_blocks xs bs = map (fitted xs (svds_of xs)) (filter (stays xs (svds_of xs)) bs)
