-- Digits of a hex dump: pairs of them with blanks between, up to a column of characters (own; as xxd, hexdump -C and edid-decode print them).
use Rattle.std.specs.Prelude.{ℕ, ◌+◌, ◌-◌, ◌*◌, ◌%◌, ◌==◌, ◌&&◌, ◌||◌, nat_lt, Bool, false, if◌then◌else◌, List, [], ◌∷◌, ◌++◌, take, slice_index, codes, Option, Some, None}
use Rattle.std.specs.Str.{bytes_eq}
use Rattle.std.specs.Char.{is_ascii_hexdigit}
use Rattle.edid_dump.specs.declared.digits.Column.{Column}
use Rattle.edid_dump.specs.declared.digits.Column.TheVariants.{Absent, AfterGap, AfterBar, AfterAngle}

-- a space, a tab or a carriage return
abbrev pub is_blank : ℕ → Bool
is_blank b = (b == 32) || (b == 9) || (b == 13)

-- what a hex digit of either case counts; what is none counts as some digit
abbrev pub digit : ℕ → ℕ
digit b = (if nat_lt b 65 then b - 48 else if nat_lt b 97 then b - 55 else b - 87) % 16

-- whether the column of characters begins here: after two spaces, at a bar, or at an angle
abbrev pub is_column : Column → List ℕ → Bool
is_column Absent rest = false
is_column AfterGap rest = (slice_index rest 0 == 32) && (slice_index rest 1 == 32)
is_column AfterBar rest = slice_index rest 0 == 124
is_column AfterAngle rest = slice_index rest 0 == 62

abbrev pub onto : ℕ → Option (List ℕ) → Option (List ℕ)
onto b None = None
onto b (Some bytes) = Some (b ∷ bytes)

-- the bytes of pairs of digits: blanks may stand before, between and after pairs, and within none
abbrev pub pairs : Column → List ℕ → Option (List ℕ)
pairs column [] = Some []
pairs column (x ∷ []) = if is_column column (x ∷ []) || is_blank x then Some [] else None
pairs column (x ∷ y ∷ rest) =
    if is_column column (x ∷ y ∷ rest) then Some []
    else if is_blank x then pairs column (y ∷ rest)
    else if is_ascii_hexdigit x && is_ascii_hexdigit y then onto (digit x * 16 + digit y) (pairs column rest)
    else None

-- ---- lists of bytes, as programs and registries have them

-- what may stand between bytes of a list: a blank, a comma, a colon, a backslash, or what ends it: `}`, `;` or `>`
abbrev pub is_between : ℕ → Bool
is_between b = is_blank b || ((b == 44) || ((b == 58) || ((b == 92) || ((b == 125) || ((b == 59) || (b == 62))))))

-- `0x`
abbrev pub is_prefix : ℕ → ℕ → Bool
is_prefix x y = (x == 48) && ((y == 120) || (y == 88))

-- the bytes of a list: pairs of digits, perhaps with `0x` before them, and signs between
abbrev pub listed : List ℕ → Option (List ℕ)
listed [] = Some []
listed (x ∷ []) = if is_between x then Some [] else None
listed (x ∷ y ∷ rest) =
    if is_between x then listed (y ∷ rest)
    else if is_prefix x y then listed rest
    else if is_ascii_hexdigit x && is_ascii_hexdigit y then onto (digit x * 16 + digit y) (listed rest)
    else None

-- where a list may begin within a line: after `<`, `{` or `hex:`
abbrev pub is_opening : ℕ → Bool
is_opening b = (b == 60) || (b == 123)

abbrev pub is_named : List ℕ → Bool
is_named rest = bytes_eq (take 4 rest) (codes "hex:")

-- the place after the first of them, of a rest of a line and where that stands
abbrev pub opened_at : ℕ → List ℕ → Option ℕ
opened_at place [] = None
opened_at place (x ∷ rest) =
    if is_opening x then Some (place + 1)
    else if is_named (x ∷ rest) then Some (place + 4)
    else opened_at (place + 1) rest

abbrev pub or_first : Option ℕ → ℕ
or_first None = 0
or_first (Some place) = place

-- where the list of a line begins: there, or with the line
abbrev pub list_start : List ℕ → ℕ
list_start line = or_first (opened_at 0 line)

-- ---- words of two bytes, of which the high one is printed first

abbrev pub swapped : List ℕ → List ℕ
swapped [] = []
swapped (b ∷ []) = b ∷ []
swapped (b ∷ c ∷ more) = c ∷ b ∷ swapped more

-- ---- rows

-- bytes, and those of a row, as far as there is room for an EDID of four blocks
abbrev pub bytes_with_row : List ℕ → Option (List ℕ) → Option (List ℕ)
bytes_with_row bytes None = None
bytes_with_row bytes (Some next) = Some (take 512 (bytes ++ next))

-- the number that two digits spell
abbrev pub byte_of : List ℕ → ℕ → ℕ
byte_of line place = digit (slice_index line place) * 16 + digit (slice_index line (place + 1))

-- the number that eight digits spell
abbrev pub offset_of : List ℕ → ℕ
offset_of line = byte_of line 0 * 16777216 + byte_of line 2 * 65536 + byte_of line 4 * 256 + byte_of line 6

-- the number that seven octal digits spell
abbrev pub octal_of : List ℕ → ℕ
octal_of line =
    digit (slice_index line 0) * 262144 + digit (slice_index line 1) * 32768 + digit (slice_index line 2) * 4096 + digit (slice_index line 3) * 512
    + digit (slice_index line 4) * 64 + digit (slice_index line 5) * 8 + digit (slice_index line 6)
