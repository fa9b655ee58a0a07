-- The unit of the times of a file: as the name of their column has it in brackets, `Time [ms]` or `Time(ms)` (own).
use Rattle.std.specs.Prelude.{ℕ, ◌+◌, ◌*◌, ◌/◌, ◌==◌, ◌&&◌, ◌||◌, Bool, nat_lt, if◌then◌else◌, List, [], ◌∷◌, length, take, drop, slice_index, position, codes, Option, Some, None}
use Rattle.std.specs.Str.{str_eq_ignore_ascii_case}
use Rattle.text_core.specs.Number.{number_of}
use Rattle.capture_core.specs.Seconds.{dot_in}
use Rattle.capture_csv.specs.Clock.{cut_decimals}
use Rattle.capture_csv.specs.declared.column.TimeUnit.{TimeUnit}
use Rattle.capture_csv.specs.declared.column.TimeUnit.TheVariants.{Seconds, Milliseconds, Microseconds, Nanoseconds}

-- brackets of either kind
abbrev pub opens : ℕ → Bool
opens b = b == 91 || b == 40

abbrev pub closes : ℕ → Bool
closes b = b == 93 || b == 41

abbrev pub after_bracket : Option ℕ → List ℕ → List ℕ
after_bracket None name = []
after_bracket (Some place) name = drop (place + 1) name

abbrev pub is_unit : List ℕ → List ℕ → Bool
is_unit unit text = str_eq_ignore_ascii_case (take (length unit) text) unit && closes (slice_index text (length unit))

-- with the letter u, the micro sign in UTF-8, the Greek letter, or the micro sign in Latin-1
abbrev pub is_micro : List ℕ → Bool
is_micro text = is_unit (codes "us") text || is_unit (194 ∷ 181 ∷ 115 ∷ []) text || is_unit (206 ∷ 188 ∷ 115 ∷ []) text || is_unit (181 ∷ 115 ∷ []) text

abbrev pub unit_in : List ℕ → TimeUnit
unit_in text = if is_unit (codes "ms") text then Milliseconds else if is_micro text then Microseconds else if is_unit (codes "ns") text then Nanoseconds else Seconds

-- seconds where it has none of these
abbrev pub unit_of : List ℕ → TimeUnit
unit_of name = unit_in (after_bracket (position opens name) name)

-- whole units of less than 10,000,000,000 seconds, and billionths of a unit, in nanoseconds
abbrev pub nanos_from : TimeUnit → ℕ → ℕ → Option ℕ
nanos_from Seconds whole part = if nat_lt 9999999999 whole then None else Some (whole * 1000000000 + part)
nanos_from Milliseconds whole part = if nat_lt 9999999999999 whole then None else Some (whole * 1000000 + part / 1000)
nanos_from Microseconds whole part = if nat_lt 9999999999999999 whole then None else Some (whole * 1000 + part / 1000000)
nanos_from Nanoseconds whole part = if nat_lt 9999999999999999999 whole then None else Some whole

abbrev pub nanos_by : TimeUnit → Option ℕ → Option ℕ → Option ℕ
nanos_by unit None part = None
nanos_by unit (Some whole) None = None
nanos_by unit (Some whole) (Some part) = if nat_lt 999999999 part then None else nanos_from unit whole part

-- whole units, and perhaps a dot and decimals, in nanoseconds
abbrev pub nanos_of : TimeUnit → List ℕ → Option ℕ
nanos_of unit word = nanos_by unit (number_of (take (dot_in word) word)) (cut_decimals (drop (dot_in word + 1) word))
