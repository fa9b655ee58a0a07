-- Rows of a hex dump, in the forms in which EDIDs are printed (own).
use Rattle.std.specs.Prelude.{ℕ, ◌+◌, ◌-◌, ◌/◌, ◌%◌, ◌==◌, ◌&&◌, ◌||◌, nat_le, nat_lt, Bool, true, false, if◌then◌else◌, List, [], ◌∷◌, length, take, drop, slice_index, codes, find, Option, Some, None}
use Rattle.std.specs.List.{list_all, position_or_len}
use Rattle.std.specs.Str.{bytes_eq}
use Rattle.std.specs.Char.{is_ascii_hexdigit}
use Rattle.edid_dump.specs.declared.digits.Column.TheVariants.{Absent, AfterGap, AfterBar, AfterAngle}
use Rattle.edid_dump.specs.declared.rows.DumpForm.{DumpForm}
use Rattle.edid_dump.specs.declared.rows.DumpForm.TheVariants.{Plain, Colon, Bars, Octal, Six, LogPairs, LogDigits, Short, Words, Opened, Listed, Tagged, Table, Record, Dashed, DashedMore, Escaped, EscapedMore, Decimal, DecimalMore, Word, Over}
use Rattle.edid_dump.specs.declared.readings.Ending.TheVariants.{Sixteen, Tag, Other}
use Rattle.edid_dump.specs.declared.readings.Reading.{Reading}
use Rattle.edid_dump.specs.declared.readings.Reading.TheVariants.{InPairs, UpTo, InCode, InWords, InRecord}
use Rattle.edid_dump.specs.declared.spelled.Spelling.TheVariants.{Pair, Escape, Number}
use Rattle.edid_dump.specs.Digits.{is_blank, list_start, octal_of, offset_of, swapped}
use Rattle.edid_dump.specs.Readings.{read_by}
use Rattle.edid_dump.specs.Remarks.{begins}

-- eight digits
abbrev pub has_offset : List ℕ → Bool
has_offset line = nat_le 8 (length line) && list_all is_ascii_hexdigit (take 8 line)

-- so many digits, alone or with a blank after them
abbrev pub has_number : ℕ → List ℕ → Bool
has_number count line = nat_le count (length line) && (list_all is_ascii_hexdigit (take count line) && ((length line == count) || is_blank (slice_index line count)))

abbrev pub after_number : ℕ → List ℕ → Option ℕ
after_number count line = if has_number count line then Some count else None

-- two digits, a colon and a space
abbrev pub is_short : List ℕ → Bool
is_short line = list_all is_ascii_hexdigit (take 2 line) && ((slice_index line 2 == 58) && (slice_index line 3 == 32))

-- the last so many characters, with a blank before them
abbrev pub tail_start : ℕ → List ℕ → Option ℕ
tail_start count line =
    if nat_lt count (length line) && is_blank (slice_index line (length line - count - 1)) then Some (length line - count) else None

-- after the first `>`
abbrev pub after_tag : List ℕ → Option ℕ
after_tag line =
    if nat_lt (position_or_len (λ b. b == 62) line) (length line) then Some (position_or_len (λ b. b == 62) line + 1) else None

-- eight digits and three spaces
abbrev pub has_wide_offset : List ℕ → Bool
has_wide_offset line = has_offset line && ((slice_index line 8 == 32) && ((slice_index line 9 == 32) && (slice_index line 10 == 32)))

-- after the offset of Format-Hex: sixteen digits and a space in PowerShell 7, eight and three spaces in Windows PowerShell 5.1
abbrev pub table_start : List ℕ → Option ℕ
table_start line = if has_number 16 line then Some 17 else if has_wide_offset line then Some 11 else None

-- the header as these forms spell it, which may begin within a line: its hex digits are of one case; of numbers the last is not looked at
abbrev pub spells_header : DumpForm → List ℕ → Bool
spells_header Dashed rest = begins (codes "00-ff-ff-ff-ff-ff-ff-00") rest || begins (codes "00-FF-FF-FF-FF-FF-FF-00") rest
spells_header Escaped rest =
    begins (codes "\\x00\\xff\\xff\\xff\\xff\\xff\\xff\\x00") rest || begins (codes "\\x00\\xFF\\xFF\\xFF\\xFF\\xFF\\xFF\\x00") rest
spells_header Decimal rest =
    begins (codes "0,255,255,255,255,255,255,") rest
    || (begins (codes "0, 255, 255, 255, 255, 255, 255,") rest || begins (codes "0 255 255 255 255 255 255 ") rest)
spells_header Word rest = begins (codes "00ffffffffffff00") rest || begins (codes "00FFFFFFFFFFFF00") rest
spells_header _ rest = false

-- where it first stands
abbrev pub header_at : DumpForm → ℕ → List ℕ → Option ℕ
header_at form place [] = None
header_at form place (x ∷ rest) = if spells_header form (x ∷ rest) then Some place else header_at form (place + 1) rest

-- where the digits of a row begin: with the line; after an offset of eight digits and a colon, or two spaces, or alone; after
-- one of seven or six digits, or of two and a colon; at sixteen pairs one blank apart, or 32 digits, that end a line of a log;
-- after what opens a list; after a tag; after an offset of Format-Hex; after the colon of a record; at the header
abbrev pub digits_start : DumpForm → List ℕ → Option ℕ
digits_start Plain line = Some 0
digits_start Colon line = if has_offset line && (slice_index line 8 == 58) then Some 9 else None
digits_start Bars line =
    if has_offset line && ((length line == 8) || ((slice_index line 8 == 32) && (slice_index line 9 == 32))) then Some 8 else None
digits_start LogPairs line = tail_start 47 line
digits_start LogDigits line = tail_start 32 line
digits_start Octal line = after_number 7 line
digits_start Six line = after_number 6 line
digits_start Short line = if is_short line then Some 3 else None
digits_start Words line = after_number 7 line
digits_start Opened line = Some (list_start line)
digits_start Listed line = Some 0
digits_start Tagged line = after_tag line
digits_start Table line = table_start line
digits_start Record line = if slice_index line 0 == 58 then Some 1 else None
digits_start Dashed line = header_at Dashed 0 line
digits_start DashedMore line = Some 0
digits_start Escaped line = header_at Escaped 0 line
digits_start EscapedMore line = Some 0
digits_start Decimal line = header_at Decimal 0 line
digits_start DecimalMore line = Some 0
digits_start Word line = header_at Word 0 line
digits_start Over line = None

-- how the bytes of a row stand in its digits
abbrev pub reading_of : DumpForm → Reading
reading_of Plain = InPairs Absent
reading_of Colon = InPairs AfterGap
reading_of Bars = InPairs AfterBar
reading_of LogPairs = InPairs Absent
reading_of LogDigits = InPairs Absent
reading_of Octal = InPairs AfterAngle
reading_of Six = InPairs AfterAngle
reading_of Short = InPairs AfterGap
reading_of Words = InPairs Absent
reading_of Opened = InCode
reading_of Listed = InCode
reading_of Tagged = UpTo Tag
reading_of Table = UpTo Sixteen
reading_of Record = InRecord
reading_of Dashed = InWords Pair
reading_of DashedMore = InWords Pair
reading_of Escaped = InWords Escape
reading_of EscapedMore = InWords Escape
reading_of Decimal = InWords Number
reading_of DecimalMore = InWords Number
reading_of Word = UpTo Other
reading_of Over = InPairs Absent

-- the bytes of its digits
abbrev pub digits_read : DumpForm → List ℕ → Option (List ℕ)
digits_read form text = read_by (reading_of form) text

-- a row of a log or of Format-Hex has sixteen bytes; a word has whole blocks; a row of the other forms that may be empty has some
abbrev pub may_have : DumpForm → ℕ → Bool
may_have Plain count = true
may_have Colon count = true
may_have Bars count = true
may_have LogPairs count = count == 16
may_have LogDigits count = count == 16
may_have Octal count = true
may_have Six count = true
may_have Short count = true
may_have Words count = true
may_have Opened count = true
may_have Listed count = true
may_have Tagged count = nat_lt 0 count
may_have Table count = count == 16
may_have Record count = nat_lt 0 count
may_have Dashed count = nat_lt 0 count
may_have DashedMore count = nat_lt 0 count
may_have Escaped count = nat_lt 0 count
may_have EscapedMore count = nat_lt 0 count
may_have Decimal count = nat_lt 0 count
may_have DecimalMore count = nat_lt 0 count
may_have Word count = count % 128 == 0
may_have Over count = true

abbrev pub counted_bytes : DumpForm → Option (List ℕ) → Option (List ℕ)
counted_bytes form None = None
counted_bytes form (Some bytes) = if may_have form (length bytes) then Some bytes else None

abbrev pub row_from : DumpForm → List ℕ → Option ℕ → Option (List ℕ)
row_from form line None = None
row_from form line (Some start) = counted_bytes form (digits_read form (drop start line))

-- the bytes of a line, where it is a row of this form
abbrev pub row : DumpForm → List ℕ → Option (List ℕ)
row form line = row_from form line (digits_start form line)

-- a line of hexdump or od for those that it leaves out since they repeat the one above
abbrev pub is_star : List ℕ → Bool
is_star line = (length line == 1) && (slice_index line 0 == 42)

abbrev pub is_repeat : DumpForm → List ℕ → Bool
is_repeat Bars line = is_star line
is_repeat Octal line = is_star line
is_repeat Six line = is_star line
is_repeat Words line = is_star line
is_repeat _ line = false

-- the number of its first byte, where rows may be left out: of eight hex digits, seven octal ones, six or seven hex ones
abbrev pub place_of : DumpForm → List ℕ → ℕ
place_of Octal line = octal_of line
place_of Six line = offset_of line / 256
place_of Words line = offset_of line / 16
place_of _ line = offset_of line

-- what opens a list, and what stands before a header, stands on the first row alone; a word is the only row
abbrev pub next_form : DumpForm → DumpForm
next_form Opened = Listed
next_form Dashed = DashedMore
next_form Escaped = EscapedMore
next_form Decimal = DecimalMore
next_form Word = Over
next_form form = form

-- the bytes of all rows in their order
abbrev pub in_order : DumpForm → List ℕ → List ℕ
in_order Words bytes = swapped bytes
in_order _ bytes = bytes

-- the header of an EDID (VESA E-EDID, 3.3)
abbrev pub header : List ℕ
header = 0 ∷ 255 ∷ 255 ∷ 255 ∷ 255 ∷ 255 ∷ 255 ∷ 0 ∷ []

abbrev pub begins_with : List ℕ → Option (List ℕ) → Bool
begins_with front None = false
begins_with front (Some bytes) = bytes_eq (take 8 bytes) front

-- the same in words
abbrev pub words_header : List ℕ
words_header = 255 ∷ 0 ∷ 255 ∷ 255 ∷ 255 ∷ 255 ∷ 0 ∷ 255 ∷ []

-- as the rows of a form have it
abbrev pub header_in : DumpForm → List ℕ
header_in Words = words_header
header_in _ = header

abbrev pub has_header : List ℕ → DumpForm → Bool
has_header line form = begins_with (header_in form) (row form line)

-- the forms of a first row, in the order in which a line is tried
abbrev pub first_forms : List DumpForm
first_forms = Plain ∷ Colon ∷ Bars ∷ Octal ∷ Six ∷ LogPairs ∷ LogDigits ∷ Short ∷ Words ∷ Opened ∷ Tagged ∷ Table ∷ Record ∷ Dashed ∷ Escaped ∷ Decimal ∷ Word ∷ []

-- the form of a line that an EDID begins with, the first that fits
abbrev pub form_of : List ℕ → Option DumpForm
form_of line = find (has_header line) first_forms
