-- What a field says of the line: a level, or a voltage. A logical 0 is at most 0.6 V and a logical 1 at least 2.5 V; an input takes
-- up to 0.8 V for a 0, and from 2.0 V on for a 1 (CEC 4, electrical specifications). Between these the level stays (own).
use Rattle.std.specs.Prelude.{ℕ, ◌==◌, ◌||◌, Bool, true, false, nat_le, nat_lt, if◌then◌else◌, List, length, drop, slice_index, codes, Option, Some, None}
use Rattle.std.specs.Str.{bytes_eq, str_eq_ignore_ascii_case}
use Rattle.capture_core.specs.Seconds.{dot_in}
use Rattle.capture_csv.specs.Unit.{nanos_of}
use Rattle.capture_csv.specs.declared.column.TimeUnit.TheVariants.{Seconds}
use Rattle.capture_csv.specs.declared.level.Said.{Said}
use Rattle.capture_csv.specs.declared.level.Said.TheVariants.{Low, High, Between}

abbrev pub is_low : List ℕ → Bool
is_low field = bytes_eq field (codes "0") || str_eq_ignore_ascii_case field (codes "low")

abbrev pub is_high : List ℕ → Bool
is_high field = bytes_eq field (codes "1") || str_eq_ignore_ascii_case field (codes "high")

abbrev pub is_sign : ℕ → Bool
is_sign b = b == 43 || b == 45

-- a voltage has a sign or a dot, so that 0 and 1 are none
abbrev pub is_voltage : List ℕ → Bool
is_voltage field = is_sign (slice_index field 0) || nat_lt (dot_in field) (length field)

abbrev pub without_sign : List ℕ → List ℕ
without_sign field = if is_sign (slice_index field 0) then drop 1 field else field

-- so many billionths of a volt, or that many below zero
abbrev pub said_by : Bool → Option ℕ → Option Said
said_by is_below None = None
said_by is_below (Some billionths) = if is_below || nat_le billionths 800000000 then Some Low else if nat_le 2000000000 billionths then Some High else Some Between

-- volts and their decimals are read as seconds are
abbrev pub voltage_of : List ℕ → Option Said
voltage_of field = said_by (slice_index field 0 == 45) (nanos_of Seconds (without_sign field))

abbrev pub level_of : List ℕ → Option Said
level_of field = if is_low field then Some Low else if is_high field then Some High else if is_voltage field then voltage_of field else None

-- whether the line is low, by whether it was
abbrev pub low_by : Said → Bool → Bool
low_by Low was_low = true
low_by High was_low = false
low_by Between was_low = was_low
