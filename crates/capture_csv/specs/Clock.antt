-- Times of the day, as ISO 8601 writes them and Saleae's Logic 2 exports them: 2026-11-26T16:00:00.060000000+00:00.
use Rattle.std.specs.Prelude.{ℕ, ◌+◌, ◌-◌, ◌*◌, ◌/◌, ◌%◌, ◌==◌, ◌&&◌, ◌||◌, not, Bool, false, nat_lt, nat_le, if◌then◌else◌, List, [], ◌∷◌, length, take, drop, slice_index, position, Option, Some, None}
use Rattle.std.specs.List.{list_all}
use Rattle.std.specs.Char.{is_ascii_digit}
use Rattle.capture_core.specs.Seconds.{decimals_of}
use Rattle.capture_csv.specs.declared.clock.Zone.{Zone}

-- decimals of a unit, in billionths: those after the ninth are cut
abbrev pub cut_decimals : List ℕ → Option ℕ
cut_decimals text = if list_all is_ascii_digit text then decimals_of (take 9 text) else None

abbrev pub is_two : List ℕ → ℕ → Bool
is_two text place = is_ascii_digit (slice_index text place) && is_ascii_digit (slice_index text (place + 1))

-- the number of two digits that stand at a place
abbrev pub two_at : List ℕ → ℕ → ℕ
two_at text place = (slice_index text place - 48) * 10 + (slice_index text (place + 1) - 48)

-- yyyy-mm-ddThh:mm:ss
abbrev pub is_date : List ℕ → Bool
is_date text = is_two text 0 && is_two text 2 && slice_index text 4 == 45 && is_two text 5 && slice_index text 7 == 45 && is_two text 8

abbrev pub is_clock : List ℕ → Bool
is_clock text = slice_index text 10 == 84 && is_two text 11 && slice_index text 13 == 58 && is_two text 14 && slice_index text 16 == 58 && is_two text 17

abbrev pub year : List ℕ → ℕ
year text = two_at text 0 * 100 + two_at text 2

abbrev pub month : List ℕ → ℕ
month text = two_at text 5

abbrev pub day : List ℕ → ℕ
day text = two_at text 8

-- from 1970 on
abbrev pub in_ranges : List ℕ → Bool
in_ranges text =
    nat_le 1970 (year text) && nat_le 1 (month text) && nat_le (month text) 12 && nat_le 1 (day text) && nat_le (day text) 31
    && nat_lt (two_at text 11) 24 && nat_lt (two_at text 14) 60 && nat_lt (two_at text 17) 60

abbrev pub is_leap : ℕ → Bool
is_leap year = year % 4 == 0 && (not (year % 100 == 0) || year % 400 == 0)

-- the days of a year before a month, without a leap day
abbrev pub days_before : ℕ → ℕ
days_before month = slice_index (0 ∷ 31 ∷ 59 ∷ 90 ∷ 120 ∷ 151 ∷ 181 ∷ 212 ∷ 243 ∷ 273 ∷ 304 ∷ 334 ∷ []) (month - 1)

abbrev pub leap_day : ℕ → ℕ → ℕ
leap_day year month = if is_leap year && nat_lt 2 month then 1 else 0

-- the leap days of the years before this one, from the year 1 on; 477 of them before 1970
abbrev pub leap_days : ℕ → ℕ
leap_days year = ((year - 1) / 4 + (year - 1) / 400) - (year - 1) / 100

-- from 1970-01-01 on
abbrev pub days : List ℕ → ℕ
days text = (year text - 1970) * 365 + (leap_days (year text) - 477) + days_before (month text) + leap_day (year text) (month text) + (day text - 1)

abbrev pub seconds : List ℕ → ℕ
seconds text = days text * 86400 + two_at text 11 * 3600 + two_at text 14 * 60 + two_at text 17

-- ---- what stands after the seconds

abbrev pub begins_zone : ℕ → Bool
begins_zone b = b == 90 || b == 43 || b == 45

abbrev pub or_end : Option ℕ → List ℕ → ℕ
or_end None rest = length rest
or_end (Some place) rest = place

abbrev pub zone_in : List ℕ → ℕ
zone_in rest = or_end (position begins_zone rest) rest

-- nothing, or a dot and decimals
abbrev pub fraction_of : List ℕ → Option ℕ
fraction_of text = if length text == 0 then Some 0 else if slice_index text 0 == 46 then cut_decimals (drop 1 text) else None

abbrev pub is_offset : List ℕ → Bool
is_offset text = length text == 6 && (slice_index text 0 == 43 || slice_index text 0 == 45) && is_two text 1 && slice_index text 3 == 58 && is_two text 4

-- nothing, Z, or how far the clock is from that of UTC
abbrev pub zone_of : List ℕ → Option Zone
zone_of text =
    if length text == 0 || (length text == 1 && slice_index text 0 == 90) then Some (record { is_ahead = false; minutes = 0 })
    else if is_offset text then Some (record { is_ahead = slice_index text 0 == 43; minutes = two_at text 1 * 60 + two_at text 4 })
    else None

-- seconds of UTC
abbrev pub utc_by : Option Zone → ℕ → Option ℕ
utc_by None seconds = None
utc_by (Some zone) seconds =
    if not zone.is_ahead then Some (seconds + zone.minutes * 60)
    else if nat_le (zone.minutes * 60) seconds then Some (seconds - zone.minutes * 60)
    else None

abbrev pub clock_seconds : List ℕ → Option ℕ
clock_seconds text = if is_date text && is_clock text && in_ranges text then utc_by (zone_of (drop (zone_in (drop 19 text)) (drop 19 text))) (seconds text) else None

abbrev pub clock_fraction : List ℕ → Option ℕ
clock_fraction text = fraction_of (take (zone_in (drop 19 text)) (drop 19 text))
