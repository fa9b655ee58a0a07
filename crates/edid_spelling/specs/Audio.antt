-- An audio data block in words (CTA-861-G, section 7.5.2): four words a descriptor, for its format, channels, sampling rates in
-- kHz, and the third byte.
use Rattle.std.specs.Prelude.{ℕ, ◌+◌, ◌-◌, ◌*◌, ◌/◌, ◌%◌, ◌==◌, ◌&&◌, nat_le, Bool, if◌then◌else◌, List, [], ◌∷◌, length, drop, flat_map, codes, Option, Some, None, Result, Ok, Err}
use Rattle.std.specs.Result.{is_err}
use Rattle.std.specs.Str.{bytes_eq}
use Rattle.text_core.specs.Number.{number_of}
use Rattle.text_core.specs.Hex.{hex_byte}
use Rattle.edid_spelling.specs.declared.audio.AudioDescriptor.{AudioDescriptor}
use Rattle.edid_spelling.specs.Rows.{Row, row, stands_for, parts_of, bits_of, fault_place}

-- the format, which bits 6 to 3 of the first byte number
unfoldable pub format_rows : List Row
format_rows =
    row (codes "pcm") 1 ∷
    row (codes "ac-3") 2 ∷
    row (codes "mpeg-1") 3 ∷
    row (codes "mp3") 4 ∷
    row (codes "mpeg-2") 5 ∷
    row (codes "aac-lc") 6 ∷
    row (codes "dts") 7 ∷
    row (codes "atrac") 8 ∷
    row (codes "one-bit-audio") 9 ∷
    row (codes "enhanced-ac-3") 10 ∷
    row (codes "dts-hd") 11 ∷
    row (codes "mat") 12 ∷
    row (codes "dst") 13 ∷
    row (codes "wma-pro") 14 ∷ []

-- sampling rates: bits of the second byte
unfoldable pub rate_rows : List Row
rate_rows =
    row (codes "32") 1 ∷
    row (codes "44.1") 2 ∷
    row (codes "48") 4 ∷
    row (codes "88.2") 8 ∷
    row (codes "96") 16 ∷
    row (codes "176.4") 32 ∷
    row (codes "192") 64 ∷ []

-- sizes of samples in bits: bits of the third byte of linear PCM
unfoldable pub size_rows : List Row
size_rows =
    row (codes "16") 1 ∷
    row (codes "20") 2 ∷
    row (codes "24") 4 ∷ []

abbrev pub low_byte : Result ℕ ℕ → Option ℕ
low_byte (Ok bits) = Some (bits % 256)
low_byte (Err number) = None

-- words of a table with a comma (44) between them, in the order of their bits; `-` for none
abbrev pub set_of : List Row → List ℕ → Option ℕ
set_of rows word = if bytes_eq word (codes "-") then Some 0 else low_byte (bits_of rows 0 (parts_of 44 word))

-- 1 to 8 channels, less one
abbrev pub channels_of : Option ℕ → Option ℕ
channels_of None = None
channels_of (Some count) = if nat_le 1 count && nat_le count 8 then Some (count - 1) else None

-- the greatest bit rate in kbit/s, a multiple of 8
abbrev pub bit_rate_of : Option ℕ → Option ℕ
bit_rate_of None = None
bit_rate_of (Some rate) = if (rate % 8 == 0) && nat_le rate 2040 then Some (rate / 8) else None

-- the third byte: sizes of linear PCM, the bit rate of formats 2 to 8, in hex what others have there
abbrev pub third_of : ℕ → List ℕ → Option ℕ
third_of format word =
    if format == 1 then set_of size_rows word else if nat_le format 8 then bit_rate_of (number_of word) else hex_byte word

-- bits 6 to 3 are the format, bits 2 to 0 the channels less one
abbrev pub first_byte : ℕ → ℕ → ℕ
first_byte format others = format % 16 * 8 + others % 8

abbrev pub descriptor_by : ℕ → Option ℕ → Option ℕ → Option ℕ → Result (List ℕ) ℕ
descriptor_by format None rates third = Err 1
descriptor_by format (Some channels) None third = Err 2
descriptor_by format (Some channels) (Some rates) None = Err 3
descriptor_by format (Some channels) (Some rates) (Some third) = Ok (first_byte format channels ∷ rates ∷ third ∷ [])

abbrev pub descriptor_of_format : Option ℕ → List ℕ → List ℕ → List ℕ → Result (List ℕ) ℕ
descriptor_of_format None channels rates third = Err 0
descriptor_of_format (Some format) channels rates third = descriptor_by format (channels_of (number_of channels)) (set_of rate_rows rates) (third_of format third)

-- the three bytes of four words, or which of them is at fault
unfoldable pub descriptor_of : List ℕ → List ℕ → List ℕ → List ℕ → Result (List ℕ) ℕ
descriptor_of format channels rates third = descriptor_of_format (stands_for format_rows format) channels rates third

-- those of the code
abbrev pub descriptor_bytes : AudioDescriptor → List ℕ
descriptor_bytes d = d.first ∷ d.rates ∷ d.third ∷ []

-- ---- a block of ten descriptors at most

-- the words of a descriptor
pub record Four : Type 0 where
  pub format : List ℕ
  pub channels : List ℕ
  pub rates : List ℕ
  pub third : List ℕ

abbrev pub four : List ℕ → List ℕ → List ℕ → List ℕ → Four
four f c r t = record { format = f; channels = c; rates = r; third = t }

-- words by fours; those that are missing at the end are empty, and at fault
abbrev pub in_fours : List (List ℕ) → List Four
in_fours [] = []
in_fours (f ∷ []) = four f [] [] [] ∷ []
in_fours (f ∷ c ∷ []) = four f c [] [] ∷ []
in_fours (f ∷ c ∷ r ∷ []) = four f c r [] ∷ []
in_fours (f ∷ c ∷ r ∷ t ∷ more) = four f c r t ∷ in_fours more

abbrev pub descriptor : Four → Result (List ℕ) ℕ
descriptor d = descriptor_of d.format d.channels d.rates d.third

-- what four words say: three bytes, or nothing, and then which of them is at fault
abbrev pub bytes_said : Result (List ℕ) ℕ → List ℕ
bytes_said (Ok bytes) = bytes
bytes_said (Err word) = []

abbrev pub word_at_fault : Result (List ℕ) ℕ → ℕ
word_at_fault (Ok bytes) = 0
word_at_fault (Err word) = word

abbrev pub descriptor_said : Four → List ℕ
descriptor_said d = bytes_said (descriptor d)

abbrev pub says_no_descriptor : Four → Bool
says_no_descriptor d = is_err (descriptor d)

abbrev pub first_fault : List Four → ℕ
first_fault [] = 0
first_fault (d ∷ ds) = word_at_fault (descriptor d)

-- the number of the word at fault of the descriptor at a place, of the eleventh the first word; the keyword has the number 0
abbrev pub fault_number : ℕ → List Four → ℕ
fault_number place ds = place * 4 + 1 + (if place == 10 then 0 else first_fault (drop place ds))

abbrev pub block_of : List Four → Result (List ℕ) ℕ
block_of ds =
    if fault_place says_no_descriptor 10 ds == length ds then Ok (flat_map descriptor_said ds)
    else Err (fault_number (fault_place says_no_descriptor 10 ds) ds)

-- The bytes that the words say, or the number of the word at fault.
abbrev pub descriptors_of : List (List ℕ) → Result (List ℕ) ℕ
descriptors_of words = block_of (in_fours words)
