-- What the video input definition and the feature bits mean (E-EDID Release A, sections 3.6.1 and 3.6.4).
use Rattle.std.specs.Prelude.{ℕ, ◌+◌, ◌*◌, ◌/◌, ◌%◌, ◌==◌, nat_lt, if◌then◌else◌, List, [], ◌∷◌, ◌++◌, slice_index, codes}
use Rattle.edid_base.specs.declared.base.Revision.{Revision}
use Rattle.edid_base.specs.declared.base.Revision.TheVariants.{Three, Four}
use Rattle.meaning_words.specs.Notes.{Row, row, when, below, text_between, is_set, set_words}

-- ---- input

-- bits 6 to 4 of a digital input of 1.4
abbrev pub depth_text : ℕ → List ℕ
depth_text depth =
    if depth == 0 then []
    else if depth == 7 then codes ", reserved depth"
    else text_between (codes ", ") (4 + 2 * depth) (codes " bits a colour")

-- bits 3 to 0 of a digital input of 1.4
abbrev pub interface_text : ℕ → List ℕ
interface_text interface =
    if interface == 0 then []
    else if interface == 1 then codes ", DVI"
    else if interface == 2 then codes ", HDMI-a"
    else if interface == 3 then codes ", HDMI-b"
    else if interface == 4 then codes ", MDDI"
    else if interface == 5 then codes ", DisplayPort"
    else codes ", reserved interface"

abbrev pub digital_words : Revision → ℕ → List ℕ
digital_words Three input = codes ", digital" ++ when (is_set input 1) (codes "as DFP 1.x")
digital_words Four input = codes ", digital" ++ (depth_text (input / 16 % 8) ++ interface_text (input % 16))

-- bits 6 and 5 of an analog input: the levels of video and of sync
abbrev pub level_text : ℕ → List ℕ
level_text level =
    if level == 0 then codes ", analog, 0.700 V video, 0.300 V sync"
    else if level == 1 then codes ", analog, 0.714 V video, 0.286 V sync"
    else if level == 2 then codes ", analog, 1.000 V video, 0.400 V sync"
    else codes ", analog, 0.700 V video, 0.000 V sync"

abbrev pub analog_rows : List Row
analog_rows =
    row 16 (codes "blank-to-black setup") ∷
    row 8 (codes "separate sync") ∷
    row 4 (codes "composite sync") ∷
    row 2 (codes "sync on green") ∷
    row 1 (codes "serrated vertical sync") ∷ []

abbrev pub analog_words : ℕ → List ℕ
analog_words input = level_text (input / 32 % 4) ++ set_words analog_rows input

abbrev pub input_words : Revision → ℕ → List ℕ
input_words revision input = if nat_lt input 128 then analog_words input else digital_words revision input

unfoldable pub input_meanings : Revision → List ℕ → List (List ℕ)
input_meanings revision bytes = below (input_words revision (slice_index bytes 0))

-- ---- features

abbrev pub power_rows : List Row
power_rows =
    row 128 (codes "standby") ∷
    row 64 (codes "suspend") ∷
    row 32 (codes "active off") ∷ []

-- bits 4 and 3 of a digital display of 1.4
abbrev pub encoding_text : ℕ → List ℕ
encoding_text encoding =
    if encoding == 0 then codes ", RGB"
    else if encoding == 1 then codes ", RGB, YCbCr 4:4:4"
    else if encoding == 2 then codes ", RGB, YCbCr 4:2:2"
    else codes ", RGB, YCbCr 4:4:4, YCbCr 4:2:2"

-- bits 4 and 3 of any other display
abbrev pub colour_text : ℕ → List ℕ
colour_text colour =
    if colour == 0 then codes ", monochrome"
    else if colour == 1 then codes ", RGB colour"
    else if colour == 2 then codes ", other colour"
    else codes ", undefined colour"

abbrev pub shades_text : Revision → ℕ → ℕ → List ℕ
shades_text Three input features = colour_text (features / 8 % 4)
shades_text Four input features = if nat_lt input 128 then colour_text (features / 8 % 4) else encoding_text (features / 8 % 4)

abbrev pub use_rows : Revision → List Row
use_rows Three =
    row 4 (codes "sRGB by default") ∷
    row 2 (codes "first timing preferred") ∷
    row 1 (codes "GTF") ∷ []
use_rows Four =
    row 4 (codes "sRGB by default") ∷
    row 2 (codes "first timing native") ∷
    row 1 (codes "continuous frequency") ∷ []

abbrev pub feature_words : Revision → ℕ → ℕ → List ℕ
feature_words revision input features = set_words power_rows features ++ (shades_text revision input features ++ set_words (use_rows revision) features)

unfoldable pub feature_meanings : Revision → ℕ → List ℕ → List (List ℕ)
feature_meanings revision input bytes = below (feature_words revision input (slice_index bytes 0))
