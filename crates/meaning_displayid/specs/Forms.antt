-- How a data block of DisplayID is told: lines of words, by tables of which One and Two have one for each block (own).
use Rattle.std.specs.Prelude.{ℕ, ◌+◌, ◌*◌, ◌-◌, ◌/◌, ◌%◌, ◌^◌, ◌==◌, ◌&&◌, nat_le, nat_lt, Bool, if◌then◌else◌, List, [], ◌∷◌, ◌++◌, map, length, take, drop, slice_index, codes, flat_map}
use Rattle.std.specs.List.{list_all}
use Rattle.hex.specs.Hex.{encode_lower}
use Rattle.meaning_words.specs.Notes.{below, rest_words, thousandths}
use Rattle.meaning_words.specs.Rates.{nearest}
use Rattle.meaning_fields.specs.Fields.{Row, are_fields, field_words, row_in_code, share, text_in_code}
use Rattle.meaning_fields.specs.declared.fields.Choice.{Choice}
use Rattle.meaning_fields.specs.Figures.{down_to}
use Rattle.meaning_displayid.specs.Timings.{front_text, left_lines}
use Rattle.meaning_displayid.specs.declared.forms.Form.{Form as FormInCode}
use Rattle.meaning_displayid.specs.declared.forms.Line.{Line as LineInCode}
use Rattle.meaning_displayid.specs.declared.forms.Say.{Say as SayInCode}
use Rattle.meaning_displayid.specs.declared.forms.Say.TheVariants.{Named, Fields, Bits, Text, Bytes, Light, Floor, Gamma, Rate}

-- ---- words of a payload

abbrev pub Say : Type 0
Say = List ℕ → List ℕ

abbrev pub named : List ℕ → Say
named text p = text

abbrev pub fields : List Row → Say
fields rows p = field_words rows p

abbrev pub bit_word : List ℕ → ℕ → List ℕ
bit_word word v = if v % 2 == 1 then word else []

abbrev pub reserved_bits : ℕ → List ℕ
reserved_bits v = if v == 0 then [] else codes " and reserved"

-- the words of bits, from the lowest on; bits without a word are reserved
unfoldable pub bit_words : List (List ℕ) → ℕ → List ℕ
bit_words [] v = reserved_bits v
bit_words (w ∷ ws) v = bit_word w v ++ bit_words ws (v / 2)

-- those of a byte between two texts, where it is not 0
unfoldable pub bits : List ℕ → ℕ → List (List ℕ) → List ℕ → Say
bits before place ws after p = if slice_index p place == 0 then [] else before ++ (bit_words ws (slice_index p place) ++ after)

-- so many bytes from a place on, at most
abbrev pub part : ℕ → ℕ → List ℕ → List ℕ
part place count p = take count (drop place p)

-- some bytes after a text, where there are some
abbrev pub told : List ℕ → List ℕ → List ℕ
told before [] = []
told before (b ∷ bs) = before ++ (b ∷ bs)

-- such bytes as characters, and in hex
abbrev pub text : List ℕ → ℕ → ℕ → Say
text before place count p = told before (part place count p)

abbrev pub told_in_hex : List ℕ → List ℕ → List ℕ
told_in_hex before [] = []
told_in_hex before (b ∷ bs) = before ++ encode_lower (b ∷ bs)

abbrev pub bytes : List ℕ → ℕ → ℕ → Say
bytes before place count p = told_in_hex before (part place count p)

-- ---- luminances: numbers of IEEE 754 of 16 bits, the lower byte first, in cd/m2

abbrev pub number_at : ℕ → List ℕ → ℕ
number_at place p = slice_index p place + slice_index p (place + 1) * 256

-- a number below infinity, in units of 2^-25
abbrev pub half_units : ℕ → ℕ
half_units v = if v / 1024 == 0 then 2 * v else (1024 + v % 1024) * 2 ^ (v / 1024)

-- in thousandths so many of these
abbrev pub light_number : ℕ → ℕ
light_number v = 125 * half_units v

abbrev pub light_scale : ℕ
light_scale = 4194304

-- 0x8000 is no luminance; other numbers below 0, infinity and what is no number are reserved
abbrev pub reserved_light : ℕ → List ℕ → List ℕ
reserved_light place p = if number_at place p == 0x8000 then [] else codes ", reserved luminance " ++ encode_lower (part place 2 p)

unfoldable pub light : List ℕ → ℕ → Say
light before place p =
    if nat_lt (number_at place p) 31744 then before ++ (thousandths (nearest (light_number (number_at place p)) light_scale) ++ codes " cd/m2")
    else reserved_light place p

-- a least one
unfoldable pub floor : ℕ → Say
floor place p = if nat_lt (number_at place p) 31744 then down_to (light_number (number_at place p)) light_scale else reserved_light place p

-- a gamma, in hundredths above 1; 255 is none
unfoldable pub gamma : ℕ → Say
gamma place p = if slice_index p place == 255 then [] else share (codes ", gamma ") 100 100 (slice_index p place)

-- ---- lines

unfoldable pub said_words : List Say → List ℕ → List ℕ
said_words says p = flat_map (λ say. say p) says

abbrev pub line_of : List ℕ → List Say → List (List ℕ)
line_of p says = below (said_words says p)

unfoldable pub lines_of : List (List Say) → List ℕ → List (List ℕ)
lines_of lines p = flat_map (line_of p) lines

-- the same with the bytes from a place on in hex
abbrev pub whole_line : List Say → ℕ → List ℕ → List (List ℕ)
whole_line says rest p = below (said_words says p ++ rest_words (drop rest p))

-- ---- blocks

-- A block of so many bytes at least: lines of words, the last one with the bytes from a place on in hex. From a byte on may stand
-- items, a line each, of so many bytes, and so many more, and so many more where bit 6 of byte 2 of the item is set.
pub record Form : Type 0 where
  pub least : ℕ
  pub lines : List (List Say)
  pub last : List Say
  pub rest : ℕ
  pub from : ℕ
  pub step : ℕ
  pub extra : ℕ
  pub sized : ℕ
  pub each : List Say
  pub known : ℕ

-- a block without items
abbrev pub block : ℕ → List (List Say) → List Say → ℕ → Form
block least lines last rest = record { least = least; lines = lines; last = last; rest = rest; from = least; step = 0; extra = 0; sized = 0; each = []; known = 0 }

-- a block of items after some bytes, of which the last of lines tells
abbrev pub list : List (List Say) → List Say → ℕ → ℕ → ℕ → ℕ → List Say → ℕ → Form
list lines last from step extra sized each known = record { least = from; lines = lines; last = last; rest = 128; from = from; step = step; extra = extra; sized = sized; each = each; known = known }

abbrev pub item_length : Form → List ℕ → ℕ
item_length f q = f.step + (f.extra + (if slice_index q 2 / 64 % 2 == 1 then f.sized else 0))

-- items, and what is left in hex; there are no more of them than bytes, by whose list they are counted
unfoldable pub item_lines : List ℕ → Form → List ℕ → List (List ℕ)
item_lines [] f q = left_lines q
item_lines (c ∷ count) f q =
    if nat_lt (length q) (item_length f q) then left_lines q
    else whole_line f.each f.known (take (item_length f q) q) ++ item_lines count f (drop (item_length f q) q)

abbrev pub head_of : Form → List ℕ → List (List ℕ)
head_of f p = lines_of f.lines p ++ whole_line f.last f.rest p

abbrev pub list_lines : Form → List ℕ → List (List ℕ)
list_lines f p = head_of f p ++ item_lines p f (drop f.from p)

abbrev pub form_lines : Form → List ℕ → List (List ℕ)
form_lines f p = if f.step == 0 then head_of f p else list_lines f p

-- ---- the same of the code

abbrev pub say_in_code : SayInCode → Say
say_in_code (Named text) = named text.now
say_in_code (Fields rows) = fields (map row_in_code rows.now)
say_in_code (Bits before place ws after) = bits before.now place (map text_in_code ws.now) after.now
say_in_code (Text before place count) = text before.now place count
say_in_code (Bytes before place count) = bytes before.now place count
say_in_code (Light before place) = light before.now place
say_in_code (Floor place) = floor place
say_in_code (Gamma place) = gamma place
say_in_code (Rate unit) = front_text unit

abbrev pub line_in_code : LineInCode → List Say
line_in_code l = map say_in_code l.says.now

abbrev pub form_in_code : FormInCode → Form
form_in_code f = record {
  least = f.least;
  lines = map line_in_code f.lines.now;
  last = line_in_code f.last;
  rest = f.rest;
  from = f.from;
  step = f.step;
  extra = f.extra;
  sized = f.sized;
  each = line_in_code f.each;
  known = f.known;
}

-- how many characters are said at most
abbrev pub say_width : SayInCode → ℕ
say_width (Named text) = length text.now
say_width (Fields rows) = 60 * length rows.now
say_width (Bits before place ws after) = 16 * length ws.now + 100
say_width (Text before place count) = 40 + count
say_width (Bytes before place count) = 40 + 2 * count
say_width (Light before place) = 80
say_width (Floor place) = 80
say_width (Gamma place) = 60
say_width (Rate unit) = 102

unfoldable pub width : List SayInCode → ℕ
width [] = 0
width (s ∷ says) = say_width s + width says

unfoldable pub lines_width : List LineInCode → ℕ
lines_width [] = 0
lines_width (l ∷ lines) = width l.says.now + 3 + lines_width lines

abbrev pub is_bit_word : Choice → Bool
is_bit_word c = nat_le (length c.text.now) 16

abbrev pub is_say : SayInCode → Bool
is_say (Named text) = nat_le (length text.now) 60
is_say (Fields rows) = are_fields rows.now
is_say (Bits before place ws after) = nat_le (length before.now) 40 && (nat_le (length after.now) 40 && list_all is_bit_word ws.now)
is_say (Text before place count) = nat_le (length before.now) 40 && (nat_le place 128 && nat_le count 128)
is_say (Bytes before place count) = nat_le (length before.now) 40 && (nat_le place 128 && nat_le count 128)
is_say (Light before place) = nat_le (length before.now) 40 && nat_le place 128
is_say (Floor place) = nat_le place 128
is_say (Gamma place) = nat_le place 128
is_say (Rate unit) = nat_le unit 10

-- a line has room for what is said
abbrev pub is_line : LineInCode → Bool
is_line l = list_all is_say l.says.now && nat_le (width l.says.now) 1100

-- as have the lines of a block, and those of its items, on a page
abbrev pub have_room : FormInCode → Bool
have_room f = nat_le (lines_width f.lines.now + width f.last.says.now + 17) (430 + 150 * f.from) && nat_le (width f.each.says.now) (133 * f.step)

abbrev pub are_sizes : FormInCode → Bool
are_sizes f = nat_le f.from f.least && (nat_le f.least 128 && (nat_le f.step 128 && (nat_le f.extra 128 && nat_le f.sized 128)))

abbrev pub is_form : FormInCode → Bool
is_form f = list_all is_line f.lines.now && (is_line f.last && (is_line f.each && (are_sizes f && have_room f)))
