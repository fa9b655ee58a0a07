-- The least, greatest and mean of widths (own).
use Rattle.std.specs.Prelude.{ℕ, ◌+◌, ◌-◌, ◌==◌, Bool, false, not, nat_le, ◌||◌, min, max, if◌then◌else◌, List, [], ◌∷◌, length, Option, Some, None}
use Rattle.line_frames.specs.declared.Ending.{Ending}
use Rattle.audit_widths.specs.declared.low.Low.{Low}
use Rattle.audit_widths.specs.declared.spread.Spread.{Spread}
use Rattle.audit_widths.specs.declared.spread.Widths.{Widths}
use Rattle.audit_widths.specs.Misfits.{is_total, slot_bit}

-- counts stay at the greatest value that they have
abbrev pub sum_of : ℕ → ℕ → ℕ
sum_of a b = min (a + b) 18446744073709551615

abbrev pub none : Spread
none = record { count = 0; sum = 0; least = 0; greatest = 0 }

-- one more width
abbrev pub with_width : ℕ → Spread → Spread
with_width width s = record {
  count = sum_of s.count 1;
  sum = sum_of s.sum width;
  least = if s.count == 0 then width else min s.least width;
  greatest = if s.count == 0 then width else max s.greatest width;
}

abbrev pub with_some : Option ℕ → Spread → Spread
with_some None s = s
with_some (Some width) s = with_width width s

-- ---- by what they are widths of

abbrev pub no_widths : Widths
no_widths = record { start_low = none; start_total = none; one_low = none; zero_low = none; total = none }

abbrev pub width_to : ℕ → Option ℕ → Option ℕ
width_to fall None = None
width_to fall (Some at) = Some (at - fall)

-- the time to the next fall, where it is a bit's
abbrev pub total_to : Ending → ℕ → ℕ → ℕ → Option ℕ → Option ℕ
total_to ending last slot fall None = None
total_to ending last slot fall (Some next) = if is_total ending last slot (next - fall) then Some (next - fall) else None

abbrev pub with_low : List Bool → ℕ → Option ℕ → Widths → Widths
with_low bits slot width w =
    if slot == 0 then record w { start_low = with_some width w.start_low }
    else if slot_bit bits slot then record w { one_low = with_some width w.one_low }
    else record w { zero_low = with_some width w.zero_low }

abbrev pub with_total : ℕ → Option ℕ → Widths → Widths
with_total slot width w = if slot == 0 then record w { start_total = with_some width w.start_total } else record w { total = with_some width w.total }

-- A start bit is low for 3,700 (CEC 5.2.1), and no bit for longer than a 0, for 1,500 (CEC 5.2.2): a reading begins with one
-- where its first low stretch is nearer to that (own). What follows a break begins with a data bit.
abbrev pub is_start : ℕ → Option ℕ → Bool
is_start fall None = false
is_start fall (Some rise) = nat_le 2600 (rise - fall)

abbrev pub counts : ℕ → Low → Bool
counts slot low = not (slot == 0) || is_start low.fall low.rise

-- with those of a slot; slot 0 is the start bit
abbrev pub with_slot : Ending → List Bool → ℕ → Low → Widths → Widths
with_slot ending bits slot low w =
    if counts slot low then with_total slot (total_to ending (length bits) slot low.fall low.next) (with_low bits slot (width_to low.fall low.rise) w) else w

-- with those of the slots from one on
abbrev pub with_slots : Ending → List Bool → ℕ → List Low → Widths → Widths
with_slots ending bits slot [] w = w
with_slots ending bits slot (low ∷ lows) w = with_slots ending bits (slot + 1) lows (with_slot ending bits slot low w)
