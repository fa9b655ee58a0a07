-- A video data block in words (CTA-861-G, section 7.5.1): its codes in decimal, with `*` after those that are native.
use Rattle.std.specs.Prelude.{ℕ, ◌+◌, ◌-◌, ◌==◌, ◌&&◌, ◌||◌, nat_le, Bool, if◌then◌else◌, List, length, take, flat_map, slice_index, Option, Some, None, Result, Ok, Err}
use Rattle.std.specs.Option.{is_none, option_to_list}
use Rattle.text_core.specs.Number.{number_of}
use Rattle.edid_spelling.specs.Rows.{fault_place}

-- codes 1 to 64 may be native, which bit 7 of the byte says
abbrev pub native_of : Option ℕ → Option ℕ
native_of None = None
native_of (Some code) = if nat_le 1 code && nat_le code 64 then Some (code + 128) else None

-- so no other code is 129 to 192
abbrev pub plain_of : Option ℕ → Option ℕ
plain_of None = None
plain_of (Some code) = if nat_le code 128 || (nat_le 193 code && nat_le code 255) then Some code else None

-- a `*` (42) ends the word
abbrev pub is_marked : List ℕ → Bool
is_marked word = slice_index word (length word - 1) == 42

-- the byte that a word stands for
abbrev pub code_of : List ℕ → Option ℕ
code_of word = if is_marked word then native_of (number_of (take (length word - 1) word)) else plain_of (number_of word)

-- what a word says: a byte, or nothing
abbrev pub code_said : List ℕ → List ℕ
code_said word = option_to_list (code_of word)

abbrev pub says_no_code : List ℕ → Bool
says_no_code word = is_none (code_of word)

-- The bytes that the words say, 31 at most, or the number of the word at fault: the first that says none, or the 32nd. The keyword
-- has the number 0.
abbrev pub codes_of : List (List ℕ) → Result (List ℕ) ℕ
codes_of words =
    if fault_place says_no_code 31 words == length words then Ok (flat_map code_said words) else Err (fault_place says_no_code 31 words + 1)
