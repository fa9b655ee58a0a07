-- What the numbers of a base block mean (E-EDID Release A, sections 3.4.4, 3.6.2, 3.6.3, 3.7 and 3.9).
use Rattle.std.specs.Prelude.{ℕ, ◌+◌, ◌*◌, ◌/◌, ◌==◌, ◌&&◌, ◌||◌, if◌then◌else◌, List, [], ◌++◌, slice_index, codes}
use Rattle.std.specs.Fmt.{decimal}
use Rattle.edid_base.specs.declared.base.Revision.{Revision}
use Rattle.edid_base.specs.declared.base.Revision.TheVariants.{Three, Four}
use Rattle.meaning_words.specs.Notes.{text_between, hundredths}
use Rattle.meaning_words.specs.Rates.{nearest}
use Rattle.meaning_fields.specs.Fields.{ten_thousandths}

-- ---- week and year of manufacture

-- 0 is no week, and 255 marks a model year in 1.4
abbrev pub week_text : Revision → ℕ → List ℕ
week_text Three week = if week == 0 then [] else text_between (codes "week ") week (codes " of ")
week_text Four week =
    if week == 0 then [] else if week == 255 then codes "model year " else text_between (codes "week ") week (codes " of ")

unfoldable pub made_text : Revision → ℕ → ℕ → List ℕ
made_text revision week year = week_text revision week ++ decimal year

-- ---- size

abbrev pub plain_size : ℕ → ℕ → List ℕ
plain_size width height = text_between [] width (codes " x ") ++ text_between [] height (codes " cm")

-- a ratio of hundredths between two texts
unfoldable pub ratio_text : List ℕ → ℕ → List ℕ → List ℕ
ratio_text before n after = before ++ (hundredths n ++ after)

-- in 1.4 one 0 says that the other is an aspect
abbrev pub aspect_size : Revision → ℕ → ℕ → List ℕ
aspect_size Three width height = codes "no size"
aspect_size Four width height =
    if (width == 0) && (height == 0) then codes "no size"
    else if height == 0 then ratio_text [] (width + 99) (codes ":1 landscape")
    else ratio_text (codes "1:") (height + 99) (codes " portrait")

unfoldable pub size_text : Revision → ℕ → ℕ → List ℕ
size_text revision width height = if (width == 0) || (height == 0) then aspect_size revision width height else plain_size width height

-- ---- gamma

-- 255: it is told in an extension
unfoldable pub gamma_text : ℕ → List ℕ
gamma_text gamma = if gamma == 255 then codes "elsewhere" else hundredths (gamma + 100)

-- ---- chromaticities

-- in units of 1 / 1024, to the nearest of four decimals
abbrev pub coordinate : ℕ → List ℕ
coordinate x = ten_thousandths (nearest (x * 10000) 1024)

abbrev pub point_text : List ℕ → ℕ → ℕ → List ℕ
point_text name x y = name ++ (coordinate x ++ (codes " " ++ coordinate y))

unfoldable pub chroma_text : List ℕ → List ℕ
chroma_text n =
    point_text (codes "red ") (slice_index n 0) (slice_index n 1) ++
    (point_text (codes ", green ") (slice_index n 2) (slice_index n 3) ++
    (point_text (codes ", blue ") (slice_index n 4) (slice_index n 5) ++
    point_text (codes ", white ") (slice_index n 6) (slice_index n 7)))

-- ---- standard timings

-- the lines of a width in pixels: 16:10, 4:3, 5:4 or 16:9
abbrev pub standard_height : ℕ → ℕ → ℕ
standard_height width aspect =
    if aspect == 0 then width * 10 / 16
    else if aspect == 1 then width * 3 / 4
    else if aspect == 2 then width * 4 / 5
    else width * 9 / 16

unfoldable pub standard_text : ℕ → ℕ → ℕ → List ℕ
standard_text width aspect rate = text_between [] width (codes "x") ++ (decimal (standard_height width aspect) ++ text_between (codes " at ") rate (codes " Hz"))
