-- What a short video descriptor means (CTA-861-G, section 7.5.1).
use Rattle.std.specs.Prelude.{ℕ, ◌-◌, ◌&&◌, nat_lt, Bool, true, false, if◌then◌else◌, List, ◌++◌, map, Option, Some, None, codes}
use Rattle.std.specs.Fmt.{decimal}
use Rattle.meaning_words.specs.Formats.{format_of}
use Rattle.meaning_words.specs.declared.formats.VideoFormat.{VideoFormat}
use Rattle.meaning_words.specs.declared.formats.Aspect.{Aspect}
use Rattle.meaning_words.specs.declared.formats.Aspect.TheVariants.{FourThirds, SixteenNinths, SixtyFourTwentySevenths, Cinema}

abbrev pub aspect_text : Aspect → List ℕ
aspect_text FourThirds = codes "4:3"
aspect_text SixteenNinths = codes "16:9"
aspect_text SixtyFourTwentySevenths = codes "64:27"
aspect_text Cinema = codes "256:135"

abbrev pub scan_text : Bool → List ℕ
scan_text true = codes "i at "
scan_text false = codes " at "

abbrev pub picture_text : VideoFormat → List ℕ
picture_text f = decimal f.width ++ (codes "x" ++ (decimal f.height ++ scan_text f.interlaced))

abbrev pub format_text : VideoFormat → List ℕ
format_text f = picture_text f ++ (decimal f.rate ++ (codes " Hz " ++ aspect_text f.aspect))

abbrev pub known_text : Option VideoFormat → List ℕ
known_text None = codes "reserved"
known_text (Some f) = format_text f

-- what a video identification code stands for
abbrev pub code_text : ℕ → List ℕ
code_text code = known_text (format_of code)

-- 129 to 192 are the codes 1 to 64, marked as native
abbrev pub is_native : ℕ → Bool
is_native svd = nat_lt 128 svd && nat_lt svd 193

abbrev pub code_of : ℕ → ℕ
code_of svd = if is_native svd then svd - 128 else svd

abbrev pub native_text : ℕ → List ℕ
native_text svd = if is_native svd then codes " native: " else codes ": "

abbrev pub video_text : ℕ → List ℕ
video_text svd = decimal (code_of svd) ++ (native_text svd ++ code_text (code_of svd))

-- a line for each byte
abbrev pub video_meanings : List ℕ → List (List ℕ)
video_meanings payload = map video_text payload
