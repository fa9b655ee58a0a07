-- Decimal numbers (own).
use Rattle.std.specs.Prelude.{ℕ, ◌+◌, ◌-◌, ◌*◌, ◌%◌, ◌^◌, ◌==◌, Bool, false, List, [], ◌∷◌, length, min, slice_index, if◌then◌else◌, Option, Some, None}
use Rattle.std.specs.List.{fold, list_all}
use Rattle.std.specs.Char.{is_ascii_digit}

-- `0`, or decimal digits of which the first is no 0
abbrev pub is_numeral : List ℕ → Bool
is_numeral word =
    if length word == 0 then false
    else if slice_index word 0 == 48 then length word == 1
    else list_all is_ascii_digit word

-- what the digits say, at most 2 ^ 64 - 1
abbrev pub value_of : List ℕ → ℕ
value_of word = fold (λ n b. min (n * 10 + (b - 48)) (2 ^ 64 - 1)) 0 word

abbrev pub number_of : List ℕ → Option ℕ
number_of word = if is_numeral word then Some (value_of word) else None

-- a number of at most three digits, up to 100, by its digits alone
abbrev pub small_number : List ℕ → ℕ
small_number (a ∷ []) = a - 48
small_number (a ∷ b ∷ []) = (a - 48) % 16 * 10 + (b - 48) % 16
small_number _ = 100
