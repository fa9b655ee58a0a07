-- In which values two lines of one word differ (own).
use Rattle.std.specs.Prelude.{ℕ, ◌+◌, ◌==◌, Bool, ◌&&◌, if◌then◌else◌, List, [], ◌∷◌, ◌++◌, length, take, drop, get_or, codes}
use Rattle.std.specs.Fmt.{decimal}
use Rattle.std.specs.Str.{bytes_eq}
use Rattle.hex.specs.Hex.{encode_lower}
use Rattle.edid_text_lines.specs.Text.{fields_text}
use Rattle.edid_text_lines.specs.declared.line.Keyword.{Keyword}
use Rattle.edid_text_lines.specs.declared.line.Keyword.TheVariants.{Made, Size, Chroma, Standard, Timing, Hdmi}
use Rattle.edid_text_lines.specs.declared.line.Fields.{Fields}
use Rattle.edid_text_lines.specs.declared.line.Fields.TheVariants.{Nothing, Letters, Numbers, Timed, Bytes, Address, Quoted}

-- the names of the numbers of a line that has several (E-EDID Release A, 3.4, 3.6, 3.7, 3.9 and 3.10.2)
abbrev pub names : Keyword → List (List ℕ)
names Made = codes "week" ∷ codes "year" ∷ []
names Size = codes "width" ∷ codes "height" ∷ []
names Chroma =
    codes "red-x" ∷ codes "red-y" ∷ codes "green-x" ∷ codes "green-y" ∷ codes "blue-x" ∷ codes "blue-y" ∷ codes "white-x" ∷ codes "white-y" ∷ []
names Standard = codes "width" ∷ codes "aspect" ∷ codes "rate" ∷ []
names Timing =
    codes "clock" ∷ codes "h-active" ∷ codes "h-blanking" ∷ codes "v-active" ∷ codes "v-blanking" ∷ codes "h-sync-offset" ∷ codes "h-sync-width"
    ∷ codes "v-sync-offset" ∷ codes "v-sync-width" ∷ codes "width" ∷ codes "height" ∷ codes "h-border" ∷ codes "v-border" ∷ []
names word = []

abbrev pub name_at : Keyword → ℕ → List ℕ
name_at word i = get_or (names word) i []

-- the name of what stands after the numbers
abbrev pub rest_name : Keyword → List ℕ
rest_name Timing = codes "flags"
rest_name word = []

-- ---- the values of a line: its numbers, and the bytes of the rest

abbrev pub shape : Fields → ℕ
shape Nothing = 0
shape (Letters letters) = 1
shape (Numbers numbers) = 2
shape (Timed numbers flags) = 3
shape (Bytes bytes) = 4
shape (Address phys bytes) = 5
shape (Quoted chars) = 6

abbrev pub numbers_in : Fields → List ℕ
numbers_in (Numbers numbers) = numbers.items
numbers_in (Timed numbers flags) = numbers.items
numbers_in fields = []

abbrev pub rest_in : Fields → List ℕ
rest_in Nothing = []
rest_in (Letters letters) = letters.items
rest_in (Numbers numbers) = []
rest_in (Timed numbers flags) = flags ∷ []
rest_in (Bytes bytes) = bytes.items
rest_in (Address phys bytes) = phys.high ∷ phys.low ∷ bytes.items
rest_in (Quoted chars) = chars.items

-- as the line has them, without the space before them
abbrev pub whole_text : Fields → List ℕ
whole_text fields = drop 1 (fields_text fields)

abbrev pub rest_text : Fields → List ℕ
rest_text (Timed numbers flags) = encode_lower (flags ∷ [])
rest_text fields = whole_text fields

-- ---- what differs: the name of a value, or none where it is the line's only one, and the texts of both

pub record Change : Type 0 where
  pub name : List ℕ
  pub first : List ℕ
  pub second : List ℕ

abbrev pub change : List ℕ → List ℕ → List ℕ → Change
change name first second = record { name = name; first = first; second = second }

abbrev pub change_unless : Bool → List ℕ → List ℕ → List ℕ → List Change
change_unless same name first second = if same then [] else change name first second ∷ []

-- numbers one by one, from the one with this number on
abbrev pub number_changes : Keyword → ℕ → List ℕ → List ℕ → List Change
number_changes word i [] ys = []
number_changes word i (x ∷ xs) [] = []
number_changes word i (x ∷ xs) (y ∷ ys) =
    if x == y then number_changes word (i + 1) xs ys
    else change (name_at word i) (decimal x) (decimal y) ∷ number_changes word (i + 1) xs ys

-- the rest of a line; of an HDMI block its address, of two bytes and seven characters, and what stands after it
abbrev pub rest_changes : Keyword → Fields → Fields → List Change
rest_changes Hdmi f g =
    change_unless (bytes_eq (take 2 (rest_in f)) (take 2 (rest_in g))) (codes "address") (take 7 (whole_text f)) (take 7 (whole_text g))
    ++ change_unless (bytes_eq (drop 2 (rest_in f)) (drop 2 (rest_in g))) (codes "bytes") (drop 8 (whole_text f)) (drop 8 (whole_text g))
rest_changes word f g = change_unless (bytes_eq (rest_in f) (rest_in g)) (rest_name word) (rest_text f) (rest_text g)

-- lines of one form value by value, and other ones, as `unused` and a standard timing, as a whole
abbrev pub changes : Keyword → Fields → Fields → List Change
changes word f g =
    if (shape f == shape g) && (length (numbers_in f) == length (numbers_in g)) then
    number_changes word 0 (numbers_in f) (numbers_in g) ++ rest_changes word f g
    else change [] (whole_text f) (whole_text g) ∷ []
