-- Numbers of microseconds (own).
use Rattle.std.specs.Prelude.{ℕ, ◌-◌, ◌^◌, ◌==◌, ◌&&◌, not, if◌then◌else◌, codes, List, Option, Some, None}
use Rattle.std.specs.Str.{bytes_eq}
use Rattle.text_core.specs.Number.{number_of}

-- a number up to 2 ^ 64 - 1, by its digits: those of a larger one read as that number, which has one numeral
abbrev pub micros_by : List ℕ → Option ℕ → Option ℕ
micros_by word None = None
micros_by word (Some n) = if (n == 2 ^ 64 - 1) && not (bytes_eq word (codes "18446744073709551615")) then None else Some n

abbrev pub micros_of : List ℕ → Option ℕ
micros_of word = micros_by word (number_of word)
