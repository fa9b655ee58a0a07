-- An InfoFrame as a text (own): two hex digits a byte, of either case, and marks between bytes.
use Rattle.std.specs.Prelude.{ℕ, ◌+◌, ◌%◌, ◌==◌, ◌&&◌, ◌||◌, nat_le, nat_lt, Bool, not, if◌then◌else◌, List, [], ◌∷◌, length, Result, Ok, Err}
use Rattle.std.specs.List.{list_all}
use Rattle.text_core.specs.Hex.{hex_bytes}
use Rattle.text_core.specs.Phys.{is_hex_digit}
use Rattle.infoframe_tables.specs.declared.frame.InfoFrameError.{InfoFrameError}
use Rattle.infoframe_tables.specs.declared.frame.InfoFrameError.TheVariants.{Long, NoHex, HalfByte, Short}

-- a space, a comma, a colon, a dash, or the end of a line, and a tab
abbrev pub is_mark : ℕ → Bool
is_mark b = (b == 32) || (b == 44) || (b == 58) || (b == 45) || (b == 10) || (b == 13) || (b == 9)

-- a letter A to F in lower case
abbrev pub lower : ℕ → ℕ
lower b = if nat_le 65 b && nat_le b 70 then b + 32 else b

-- what is no mark
abbrev pub digits_of : List ℕ → List ℕ
digits_of [] = []
digits_of (b ∷ bs) = if is_mark b then digits_of bs else lower b ∷ digits_of bs

-- the bytes of digits: whole ones, four at least
abbrev pub spelled : List ℕ → Result (List ℕ) InfoFrameError
spelled digits =
    if not (list_all is_hex_digit digits) then Err NoHex
    else if length digits % 2 == 1 then Err HalfByte
    else if nat_lt (length digits) 8 then Err Short
    else Ok (hex_bytes digits)

-- of a text of at most 1,000 characters with at most 31 bytes
abbrev pub read_of : List ℕ → Result (List ℕ) InfoFrameError
read_of text = if nat_lt 1000 (length text) || nat_lt 62 (length (digits_of text)) then Err Long else spelled (digits_of text)
