-- Seconds with decimals (own).
use Rattle.std.specs.Prelude.{ℕ, ◌+◌, ◌-◌, ◌*◌, ◌/◌, ◌%◌, ◌&&◌, ◌==◌, nat_le, nat_lt, if◌then◌else◌, List, [], ◌∷◌, length, slice_index, Option, Some, None}
use Rattle.std.specs.List.{list_all, position_or_len}
use Rattle.std.specs.Char.{is_ascii_digit}

-- past the end of a text the digit is 0
abbrev pub digit_at : List ℕ → ℕ → ℕ
digit_at text place = slice_index text place - 48

-- nine decimals, in nanoseconds
abbrev pub nine : List ℕ → ℕ
nine text =
    (digit_at text 0 * 100000000 + digit_at text 1 * 10000000 + digit_at text 2 * 1000000)
    + (digit_at text 3 * 100000 + digit_at text 4 * 10000 + digit_at text 5 * 1000)
    + (digit_at text 6 * 100 + digit_at text 7 * 10 + digit_at text 8)

-- up to nine decimals
abbrev pub decimals_of : List ℕ → Option ℕ
decimals_of text = if nat_le (length text) 9 && list_all is_ascii_digit text then Some (nine text) else None

-- nine decimals of the microseconds below a second
abbrev pub nine_digits : ℕ → List ℕ
nine_digits n =
    (48 + n / 100000 % 10) ∷ (48 + n / 10000 % 10) ∷ (48 + n / 1000 % 10) ∷ (48 + n / 100 % 10) ∷ (48 + n / 10 % 10) ∷ (48 + n % 10) ∷ 48 ∷ 48 ∷ 48 ∷ []

-- the dot before the decimals
abbrev pub dot_in : List ℕ → ℕ
dot_in text = position_or_len (λ b. b == 46) text

-- nanoseconds in microseconds, rounded up, within the limit of a capture
abbrev pub instant_of : ℕ → Option ℕ
instant_of nanos = if nat_lt 2000000000000000 nanos then None else Some ((nanos + 999) / 1000)
