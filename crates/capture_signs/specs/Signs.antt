-- What a captured line looks like: sums and counts over its low stretches. Times in microseconds. The bounds are this profile's own, beside
-- times of the standard.
use Rattle.std.specs.Prelude.{ℕ, ◌+◌, ◌-◌, ◌*◌, Bool, true, not, nat_lt, nat_le, ◌&&◌, min, max, if◌then◌else◌, List, [], ◌∷◌, Option, Some, None}
use Rattle.audit_widths.specs.declared.low.Low.{Low}
use Rattle.audit_widths.specs.Misfits.{fits, window}
use Rattle.audit_widths.specs.Spreads.{width_to}
use Rattle.audit_pieces.specs.Stretches.{rise_by}
use Rattle.audit_judged.specs.Endings.{longest_low}
use Rattle.capture_signs.specs.declared.sums.Sign.{Sign}
use Rattle.capture_signs.specs.declared.sums.Sign.TheVariants.{Lows, LowTime, StuckTime, FastLows, ShortPulses, Periods, HumPeriods, RunPeriods, BitPeriods}
use Rattle.capture_signs.specs.Sums.{most_sum, one_if, sum_all}

-- ---- bounds

-- A 1 is low for 400 at least (CEC 5.2.2). What is shorter than a quarter of that is of a faster bus, or noise (own).
abbrev pub fast_below : ℕ
fast_below = 100

-- The shortest stretch of CEC is the high end of a 0, which is low for 1,700 of a bit of 2,050 (CEC 5.2.2). What is shorter than half of that
-- is chatter (own).
abbrev pub short_below : ℕ
short_below = 175

-- A pause is longer than 2.5 times the shortest time from fall to fall. By the windows of CEC 5.2 no time within a frame is a pause, since a
-- start bit lasts 4,700 at most and a bit 2,050 at least; and each signal free time, 7,200 at least (CEC 9.1), is one, since a bit lasts 2,750
-- at most. That hangs on no unit of time.
abbrev pub is_pause : ℕ → ℕ → Bool
is_pause shortest period = nat_lt (5 * shortest) (2 * period)

-- within a tenth of a period
abbrev pub is_near : ℕ → ℕ → Bool
is_near period time = nat_le (9 * period) (10 * time) && nat_le (10 * time) (11 * period)

-- ---- what a low stretch adds, of a capture up to `end`

abbrev pub low_width : ℕ → Low → ℕ
low_width end low = rise_by end low.rise - low.fall

abbrev pub stuck_time : ℕ → ℕ
stuck_time width = if nat_lt longest_low width then width else 0

abbrev pub one_where : (ℕ → Bool) → Option ℕ → ℕ
one_where test None = 0
one_where test (Some time) = one_if (test time)

-- from its rise to the next fall
abbrev pub gap_from : Option ℕ → Option ℕ → Option ℕ
gap_from None next = None
gap_from (Some rise) next = width_to rise next

abbrev pub is_fast : ℕ → Bool
is_fast width = nat_lt width fast_below

abbrev pub is_short : ℕ → Bool
is_short width = nat_lt width short_below

abbrev pub any : ℕ → Bool
any time = true

abbrev pub is_in_run : ℕ → ℕ → Bool
is_in_run shortest period = not (is_pause shortest period)

-- a time within a run that a bit may last (CEC 5.2.2)
abbrev pub is_bit_in_run : ℕ → ℕ → Bool
is_bit_in_run shortest period = not (is_pause shortest period) && fits (window 2050 2750) period

abbrev pub amount : Sign → ℕ → Low → ℕ
amount Lows end low = 1
amount LowTime end low = low_width end low
amount StuckTime end low = stuck_time (low_width end low)
amount FastLows end low = one_where is_fast (width_to low.fall low.rise)
amount ShortPulses end low = one_where is_short (width_to low.fall low.rise) + one_where is_short (gap_from low.rise low.next)
amount Periods end low = one_where any (width_to low.fall low.next)
amount (HumPeriods period) end low = one_where (is_near period) (width_to low.fall low.next)
amount (RunPeriods shortest) end low = one_where (is_in_run shortest) (width_to low.fall low.next)
amount (BitPeriods shortest) end low = one_where (is_bit_in_run shortest) (width_to low.fall low.next)

-- of all low stretches
abbrev pub signed : Sign → ℕ → List Low → ℕ
signed sign end lows = sum_all (amount sign end) lows

-- ---- the shortest and the longest

-- the shortest time from a fall to the next one; of no such time the greatest value
abbrev pub time_or_most : Option ℕ → ℕ
time_or_most None = most_sum
time_or_most (Some time) = time

abbrev pub shortest_period : List Low → ℕ
shortest_period [] = most_sum
shortest_period (low ∷ lows) = min (time_or_most (width_to low.fall low.next)) (shortest_period lows)

-- the longest pulse or gap that is chatter, or 0
abbrev pub short_or_none : Option ℕ → ℕ
short_or_none None = 0
short_or_none (Some width) = if is_short width then width else 0

abbrev pub longest_short : List Low → ℕ
longest_short [] = 0
longest_short (low ∷ lows) =
    max (max (short_or_none (width_to low.fall low.rise)) (short_or_none (gap_from low.rise low.next))) (longest_short lows)
