-- An EDID's text in which payloads may stand in words, and the text with those in hex (own).
use Rattle.std.specs.Prelude.{ℕ, zero, suc, ◌%◌, ◌==◌, ◌&&◌, ◌||◌, Bool, true, false, if◌then◌else◌, List, [], ◌∷◌, ◌++◌, length, codes, flat_map, Option, Some, None, Result, Ok, Err}
use Rattle.std.specs.List.{before_first, list_all}
use Rattle.std.specs.Str.{bytes_eq}
use Rattle.text_core.specs.Lines.{lines_of}
use Rattle.text_core.specs.Phys.{is_hex_digit, phys_of}
use Rattle.text_core.specs.Words.{words_of}
use Rattle.text_core.specs.declared.phys.Phys.{Phys}
use Rattle.edid_cta.specs.declared.block.BlockKind.{BlockKind}
use Rattle.edid_cta.specs.declared.block.BlockKind.TheVariants.{Audio, Speakers, Video}
use Rattle.edid_text_lines.specs.Text.{line_text}
use Rattle.edid_text_lines.specs.declared.line.Fields.TheVariants.{Address, Bytes, Timed as OfTiming}
use Rattle.edid_text_lines.specs.declared.line.Keyword.TheVariants.{Block, Hdmi, Timing}
use Rattle.edid_text_lines.specs.declared.line.Line.{Line}
use Rattle.edid_spelling.specs.Audio.{descriptors_of}
use Rattle.edid_spelling.specs.Hdmi.{hdmi_of}
use Rattle.edid_spelling.specs.Rows.{first_of, others_of}
use Rattle.edid_spelling.specs.Speakers.{speakers_of}
use Rattle.edid_spelling.specs.Timing.{Timed, timing_of}
use Rattle.edid_spelling.specs.Video.{codes_of}

-- one word of hex digits, two a byte, or `-`; or no word
abbrev pub is_hex : List (List ℕ) → Bool
is_hex [] = true
is_hex (word ∷ []) = bytes_eq word (codes "-") || ((length word % 2 == 0) && list_all is_hex_digit word)
is_hex (word ∷ next ∷ words) = false

-- the line of a data block with these bytes in hex
abbrev pub with_bytes : BlockKind → Result (List ℕ) ℕ → Result Line ℕ
with_bytes kind (Ok payload) = Ok (record { word = Block kind; fields = Bytes (record { items = payload }) })
with_bytes kind (Err number) = Err number

-- the physical address, and hex or words: of hex the line stays as it is
abbrev pub addressed : Option Phys → Result (List ℕ) ℕ → Result Line ℕ
addressed None bytes = Err 1
addressed (Some phys) (Err number) = Err number
addressed (Some phys) (Ok bytes) = Ok (record { word = Hdmi; fields = Address phys (record { items = bytes }) })

abbrev pub hdmi_line : List (List ℕ) → Result Line ℕ
hdmi_line words = if is_hex (others_of words) then Err 0 else addressed (phys_of (first_of words)) (hdmi_of (others_of words))

abbrev pub with_timing : Result Timed ℕ → Result Line ℕ
with_timing (Ok t) = Ok (record { word = Timing; fields = OfTiming (record { items = t.numbers }) t.flags })
with_timing (Err number) = Err number

-- what words say after a keyword, or the number of the one at fault; 0 where no words go with the keyword
abbrev pub said_after : List ℕ → List (List ℕ) → Result Line ℕ
said_after keyword words =
    if bytes_eq keyword (codes "video") then with_bytes Video (codes_of words)
    else if bytes_eq keyword (codes "audio") then with_bytes Audio (descriptors_of words)
    else if bytes_eq keyword (codes "speakers") then with_bytes Speakers (speakers_of words)
    else if bytes_eq keyword (codes "hdmi") then hdmi_line words
    else if bytes_eq keyword (codes "timing") then with_timing (timing_of words)
    else Err 0

abbrev pub said_by : List (List ℕ) → Result Line ℕ
said_by [] = Err 0
said_by (keyword ∷ words) = if is_hex words then Err 0 else said_after keyword words

-- the line that a line in words says, or the number of its word at fault; 0 where it is not in words
unfoldable pub in_words : List ℕ → Result Line ℕ
in_words line = said_by (words_of line)

-- a line whose words are at fault stands as its keyword and `?` for each of its fields, which no EDID's text has
abbrev pub doubts : List ℕ → List ℕ
doubts keyword =
    if bytes_eq keyword (codes "hdmi") then codes " ? ?\n"
    else if bytes_eq keyword (codes "timing") then codes " ? ? ? ? ? ? ? ? ? ? ? ? ? ?\n"
    else codes " ?\n"

abbrev pub refused_line : List ℕ → List ℕ
refused_line keyword = keyword ++ doubts keyword

abbrev pub spelled : List ℕ → Result Line ℕ → List ℕ
spelled line (Ok l) = line_text l
spelled line (Err zero) = line ++ 10 ∷ []
spelled line (Err (suc number)) = refused_line (before_first (λ b. b == 32) line)

-- the line with its payload in hex, where it is in words; where it is not, the line as it stands
unfoldable pub canonical_line : List ℕ → List ℕ
canonical_line line = spelled line (in_words line)

abbrev pub canonical_text : List ℕ → List ℕ
canonical_text text = flat_map canonical_line (lines_of text)
