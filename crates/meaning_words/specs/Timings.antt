-- What a detailed timing means (E-EDID Release A, section 3.10.2).
use Rattle.std.specs.Prelude.{ℕ, ◌+◌, ◌*◌, ◌/◌, ◌%◌, ◌==◌, ◌&&◌, nat_lt, if◌then◌else◌, List, [], ◌∷◌, ◌++◌, codes}
use Rattle.std.specs.Fmt.{decimal}
use Rattle.meaning_words.specs.Notes.{when, hundredths, thousandths, is_set}
use Rattle.meaning_words.specs.Rates.{of_line, line_pixels, half_lines, picture_lines, field_rate, line_rate}
use Rattle.meaning_words.specs.declared.rates.TimingNumbers.{TimingNumbers}

-- "i" of a picture of two fields
abbrev pub interlace_mark : ℕ → List ℕ
interlace_mark flags = if nat_lt flags 128 then [] else codes "i"

abbrev pub picture_text : TimingNumbers → List ℕ
picture_text t = decimal t.horizontal_active ++ (codes "x" ++ (decimal (picture_lines t) ++ interlace_mark t.flags))

-- field rate and line rate, where it has pixels
abbrev pub rates_text : TimingNumbers → List ℕ
rates_text t =
    if line_pixels t * half_lines t == 0 then codes ", no rate"
    else codes " at " ++ (thousandths (field_rate t) ++ (codes " Hz, " ++ (thousandths (line_rate t) ++ codes " kHz")))

abbrev pub clock_text : TimingNumbers → List ℕ
clock_text t = codes ", " ++ (hundredths t.clock ++ codes " MHz")

-- ---- sync: bits 4 to 1 of the flags

abbrev pub serrations : ℕ → List ℕ
serrations flags = when (is_set flags 4) (codes "serrated")

abbrev pub analog_lines : ℕ → List ℕ
analog_lines flags = if is_set flags 2 then codes " on red, green and blue" else codes " on green"

abbrev pub horizontal_sign : ℕ → List ℕ
horizontal_sign flags = if is_set flags 2 then codes "+h" else codes "-h"

abbrev pub vertical_sign : ℕ → List ℕ
vertical_sign flags = if is_set flags 4 then codes " +v" else codes " -v"

abbrev pub separate_text : ℕ → List ℕ
separate_text flags = codes ", " ++ (horizontal_sign flags ++ vertical_sign flags)

abbrev pub composite_text : List ℕ → ℕ → List ℕ
composite_text name flags = name ++ (horizontal_sign flags ++ serrations flags)

abbrev pub analog_text : List ℕ → ℕ → List ℕ
analog_text name flags = name ++ (analog_lines flags ++ serrations flags)

abbrev pub sync_text : ℕ → List ℕ
sync_text flags =
    if flags / 8 % 4 == 3 then separate_text flags
    else if flags / 8 % 4 == 2 then composite_text (codes ", digital composite sync ") flags
    else if flags / 8 % 4 == 1 then analog_text (codes ", bipolar analog composite sync") flags
    else analog_text (codes ", analog composite sync") flags

-- ---- size, borders and stereo

abbrev pub size_text : TimingNumbers → List ℕ
size_text t =
    if (t.width == 0) && (t.height == 0) then []
    else codes ", " ++ (decimal t.width ++ (codes " x " ++ (decimal t.height ++ codes " mm")))

-- pixels left and right, lines above and below
abbrev pub border_text : TimingNumbers → List ℕ
border_text t =
    if (t.horizontal_border == 0) && (t.vertical_border == 0) then []
    else codes ", borders of " ++ (decimal t.horizontal_border ++ (codes " pixels and " ++ (decimal t.vertical_border ++ codes " lines")))

-- bits 6, 5 and 0 of the flags
abbrev pub stereo_code : ℕ → ℕ
stereo_code flags = flags / 32 % 4 * 2 + flags % 2

abbrev pub stereo_text : ℕ → List ℕ
stereo_text code =
    if code == 2 then codes ", field sequential stereo, right image at the stereo sync"
    else if code == 3 then codes ", 2-way interleaved stereo, right image on even lines"
    else if code == 4 then codes ", field sequential stereo, left image at the stereo sync"
    else if code == 5 then codes ", 2-way interleaved stereo, left image on even lines"
    else if code == 6 then codes ", 4-way interleaved stereo"
    else if code == 7 then codes ", side-by-side interleaved stereo"
    else []

-- ---- all of it

abbrev pub timing_text : TimingNumbers → List ℕ
timing_text t =
    picture_text t ++ (rates_text t ++ (clock_text t ++ (sync_text t.flags ++ (size_text t ++ (border_text t ++ stereo_text (stereo_code t.flags))))))

-- of the numbers and the flags of a timing's line
unfoldable pub timing_meanings : List ℕ → ℕ → List (List ℕ)
timing_meanings n flags = timing_text (of_line n flags) ∷ []
