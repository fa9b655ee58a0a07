-- What a short audio descriptor means (CTA-861-G, section 7.5.2; byte 3 of Enhanced AC-3 and of MAT, and extensions 14 and 15: CTA-861-H).
use Rattle.std.specs.Prelude.{ℕ, ◌+◌, ◌*◌, ◌/◌, ◌%◌, ◌==◌, ◌&&◌, ◌||◌, nat_le, Bool, if◌then◌else◌, List, [], ◌∷◌, ◌++◌, codes}
use Rattle.hex.specs.Hex.{encode_lower}
use Rattle.meaning_words.specs.Notes.{Row, row, text_between, counted_text, spaced_words}
use Rattle.meaning_fields.specs.Fields.{Row as FieldRow, row as field, word, words, number, hex, field_words}

-- byte 1, bits 6 to 3
abbrev pub format_number : ℕ → ℕ
format_number first = first / 8 % 16

-- byte 3, bits 7 to 3, of format 15
abbrev pub extension_number : ℕ → ℕ
extension_number third = third / 8

abbrev pub format_name : ℕ → List ℕ
format_name n =
    if n == 1 then codes "linear PCM"
    else if n == 2 then codes "AC-3"
    else if n == 3 then codes "MPEG-1"
    else if n == 4 then codes "MP3"
    else if n == 5 then codes "MPEG-2"
    else if n == 6 then codes "AAC LC"
    else if n == 7 then codes "DTS"
    else if n == 8 then codes "ATRAC"
    else if n == 9 then codes "One Bit Audio"
    else if n == 10 then codes "Enhanced AC-3"
    else if n == 11 then codes "DTS-HD"
    else if n == 12 then codes "MAT"
    else if n == 13 then codes "DST"
    else if n == 14 then codes "WMA Pro"
    else codes "reserved"

abbrev pub extension_name : ℕ → List ℕ
extension_name n =
    if n == 4 then codes "MPEG-4 HE AAC"
    else if n == 5 then codes "MPEG-4 HE AAC v2"
    else if n == 6 then codes "MPEG-4 AAC LC"
    else if n == 7 then codes "DRA"
    else if n == 8 then codes "MPEG-4 HE AAC and MPEG Surround"
    else if n == 10 then codes "MPEG-4 AAC LC and MPEG Surround"
    else if n == 11 then codes "MPEG-H 3D"
    else if n == 12 then codes "AC-4"
    else if n == 13 then codes "linear PCM 3D"
    else if n == 14 then codes "Auro-Cx"
    else if n == 15 then codes "MPEG-D USAC"
    else codes "reserved extension"

abbrev pub audio_name : ℕ → ℕ → List ℕ
audio_name first third = if format_number first == 15 then extension_name (extension_number third) else format_name (format_number first)

-- ---- channels

-- bits 2 to 0 of byte 1; of linear PCM 3D bits 7 of both bytes stand before them, that of byte 2 first
abbrev pub channel_count : ℕ → ℕ → ℕ → ℕ
channel_count first second third =
    if (format_number first == 15) && (extension_number third == 13) then second / 128 * 16 + first / 128 * 8 + first % 8 + 1 else first % 8 + 1

-- MPEG-H 3D and AC-4 indicate no channels
abbrev pub channels_text : ℕ → ℕ → ℕ → List ℕ
channels_text first second third =
    if (format_number first == 15) && ((extension_number third == 11) || (extension_number third == 12)) then []
    else codes ", " ++ counted_text (channel_count first second third) (codes " channel")

-- ---- sampling rates: bits of byte 2

abbrev pub rate_rows : List Row
rate_rows =
    row 1 (codes "32") ∷
    row 2 (codes "44.1") ∷
    row 4 (codes "48") ∷
    row 8 (codes "88.2") ∷
    row 16 (codes "96") ∷
    row 32 (codes "176.4") ∷
    row 64 (codes "192") ∷ []

abbrev pub rates_text : ℕ → List ℕ
rates_text second = if second % 128 == 0 then [] else codes ", " ++ (spaced_words rate_rows second ++ codes "kHz")

-- ---- byte 3: sizes of samples, the greatest bit rate in units of 8 kbit/s, or what the format has there

abbrev pub size_rows : List Row
size_rows =
    row 1 (codes "16") ∷
    row 2 (codes "20") ∷
    row 4 (codes "24") ∷ []

abbrev pub sizes_text : ℕ → List ℕ
sizes_text third = if third % 8 == 0 then [] else codes ", " ++ (spaced_words size_rows third ++ codes "bits")

abbrev pub bit_rate_text : ℕ → List ℕ
bit_rate_text third = text_between (codes ", up to ") (8 * third) (codes " kbit/s")

abbrev pub other_text : ℕ → List ℕ
other_text third = codes ", byte 3 is " ++ encode_lower (third ∷ [])

-- Enhanced AC-3: objects, which are Dolby Atmos
abbrev pub joint_rows : List FieldRow
joint_rows =
    field 0 1 1 4 (words [] ([] ∷ codes ", joint object coding (Dolby Atmos)" ∷ codes ", joint object coding with ACMOD 28 alone" ∷ codes ", joint object coding (Dolby Atmos), also with ACMOD 28" ∷ [])) ∷
    field 0 1 4 64 (hex (codes ", reserved bits ") 4) ∷ []

-- MAT, which carries TrueHD: with bit 0 object audio and channels too, which are Dolby Atmos, and of these bit 1 says whether they need
-- a hash
abbrev pub mat_rows : List FieldRow
mat_rows =
    field 0 1 1 4 (words [] (codes ", TrueHD alone" ∷ codes ", objects and channels (Dolby Atmos), hash needed" ∷ codes ", TrueHD alone" ∷ codes ", objects and channels (Dolby Atmos), no hash needed" ∷ [])) ∷
    field 0 1 4 64 (hex (codes ", reserved bits ") 4) ∷ []

-- WMA Pro
abbrev pub profile_rows : List FieldRow
profile_rows =
    field 0 1 1 8 (number (codes ", profile ") 1 0 []) ∷
    field 0 1 8 32 (hex (codes ", reserved bits ") 8) ∷ []

-- MPEG-4 HE AAC, its second version, and AAC LC; and those with MPEG Surround
abbrev pub frame_rows : List FieldRow
frame_rows =
    field 0 1 2 4 (words [] ([] ∷ codes ", frames of 960 samples" ∷ codes ", frames of 1024 samples" ∷ codes ", frames of 1024 and of 960 samples" ∷ [])) ∷
    field 0 1 1 2 (hex (codes ", reserved bits ") 1) ∷ []

abbrev pub surround_rows : List FieldRow
surround_rows =
    field 0 1 2 4 (words [] ([] ∷ codes ", frames of 960 samples" ∷ codes ", frames of 1024 samples" ∷ codes ", frames of 1024 and of 960 samples" ∷ [])) ∷
    field 0 1 1 2 (words [] (codes ", surround implicit" ∷ codes ", surround implicit and explicit" ∷ [])) ∷ []

-- MPEG-H 3D: the level
abbrev pub level_rows : List FieldRow
level_rows =
    field 0 1 1 8 (words (codes ", level ") ([] ∷ codes ", level 1" ∷ codes ", level 2" ∷ codes ", level 3" ∷ codes ", level 4" ∷ codes ", level 5" ∷ [])) ∷ []

-- the bits above the sizes of linear PCM are reserved
abbrev pub pcm_text : ℕ → List ℕ
pcm_text third = if third / 8 == 0 then [] else codes ", reserved bits " ++ encode_lower (third / 8 * 8 ∷ [])

-- of format 15, by the extension
abbrev pub extended_third : ℕ → List ℕ
extended_third third =
    if nat_le 4 (extension_number third) && nat_le (extension_number third) 6 then field_words frame_rows (third ∷ [])
    else if (extension_number third == 8) || (extension_number third == 10) then field_words surround_rows (third ∷ [])
    else if extension_number third == 11 then field_words level_rows (third ∷ [])
    else if extension_number third == 13 then sizes_text third
    else other_text third

abbrev pub third_text : ℕ → ℕ → List ℕ
third_text first third =
    if format_number first == 1 then sizes_text third ++ pcm_text third
    else if nat_le 2 (format_number first) && nat_le (format_number first) 8 then bit_rate_text third
    else if format_number first == 10 then field_words joint_rows (third ∷ [])
    else if format_number first == 12 then field_words mat_rows (third ∷ [])
    else if format_number first == 14 then field_words profile_rows (third ∷ [])
    else if format_number first == 15 then extended_third third
    else other_text third

-- bit 7 of bytes 1 and 2, but of linear PCM 3D, and bits 2 to 0 of byte 1 where they indicate no channels
abbrev pub spare_first : ℕ → ℕ → ℕ
spare_first first third =
    if (format_number first == 15) && ((extension_number third == 11) || (extension_number third == 12)) then first / 128 * 128 + first % 8 else first / 128 * 128

abbrev pub is_spare : ℕ → ℕ → Bool
is_spare spare second = (spare == 0) && (second / 128 == 0)

abbrev pub spare_bits : ℕ → ℕ → List ℕ
spare_bits spare second = if is_spare spare second then [] else codes ", reserved bits " ++ encode_lower (spare ∷ second / 128 * 128 ∷ [])

abbrev pub spare_text : ℕ → ℕ → ℕ → List ℕ
spare_text first second third = if (format_number first == 15) && (extension_number third == 13) then [] else spare_bits (spare_first first third) second

-- ---- all of it

abbrev pub audio_text : ℕ → ℕ → ℕ → List ℕ
audio_text first second third = audio_name first third ++ (channels_text first second third ++ (rates_text second ++ (third_text first third ++ spare_text first second third)))

-- three bytes a format
abbrev pub audio_meanings : List ℕ → List (List ℕ)
audio_meanings (first ∷ second ∷ third ∷ more) = audio_text first second third ∷ audio_meanings more
audio_meanings [] = []
audio_meanings (first ∷ []) = (codes "in hex " ++ encode_lower (first ∷ [])) ∷ []
audio_meanings (first ∷ second ∷ []) = (codes "in hex " ++ encode_lower (first ∷ second ∷ [])) ∷ []
