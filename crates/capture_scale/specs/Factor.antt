-- The factor by which the times of a capture are multiplied (own): a number of ten-thousandths.
use Rattle.std.specs.Prelude.{ℕ, ◌+◌, ◌*◌, ◌/◌, ◌==◌, ◌&&◌, ◌||◌, nat_le, nat_lt, List, length, Option, Some, None, if◌then◌else◌, option_and_then}
use Rattle.std.specs.Option.{option_map}
use Rattle.std.specs.List.{after_first, before_first, position_or_len}
use Rattle.text_core.specs.Number.{number_of}
use Rattle.capture_core.specs.Seconds.{decimals_of}

-- what stands before the first `.` (46) of a word, and what stands after it, where it has one
abbrev pub halves : List ℕ → Option (List ℕ × List ℕ)
halves word =
    if nat_lt (position_or_len (λ b. b == 46) word) (length word) then Some (before_first (λ b. b == 46) word, after_first (λ b. b == 46) word)
    else None

-- one to four decimals; those that are missing count as 0
abbrev pub fraction_in : List ℕ → Option ℕ
fraction_in text = if (length text == 0) || nat_lt 4 (length text) then None else option_map (λ nanos. nanos / 100000) (decimals_of text)

-- from 0.0001 to 1,000
abbrev pub in_range : ℕ → Option ℕ
in_range factor = if nat_le 1 factor && nat_le factor 10000000 then Some factor else None

abbrev pub scale_by : ℕ → ℕ → Option ℕ
scale_by whole fraction = if nat_lt 1000 whole || nat_lt 9999 fraction then None else in_range (whole * 10000 + fraction)

-- a whole number without leading zeros
abbrev pub whole_scale : List ℕ → Option ℕ
whole_scale word = option_and_then (λ whole. scale_by whole 0) (number_of word)

-- or one, a dot, and decimals
abbrev pub split_scale : List ℕ → List ℕ → Option ℕ
split_scale whole decimals = option_and_then (λ n. option_and_then (scale_by n) (fraction_in decimals)) (number_of whole)

abbrev pub scale_by_parts : List ℕ → Option (List ℕ × List ℕ) → Option ℕ
scale_by_parts word None = whole_scale word
scale_by_parts word (Some parts) = split_scale parts.0 parts.1

abbrev pub scale_of : List ℕ → Option ℕ
scale_of word = scale_by_parts word (halves word)
