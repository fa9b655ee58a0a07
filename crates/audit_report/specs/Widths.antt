-- Who drives each width of a reading (CEC 5.2, 6.1.2): the start bit, the low time of each bit and the time to the next fall are the
-- initiator's. The low time of an acknowledge slot that was read 0 is a follower's, of one that was read 1 nobody's alone (own).
use Rattle.std.specs.Prelude.{ℕ, ◌+◌, ◌%◌, ◌==◌, Bool, false, not, nat_lt, ◌&&◌, if◌then◌else◌, List, [], ◌∷◌, None}
use Rattle.line_frames.specs.declared.Ending.{Ending}
use Rattle.audit_widths.specs.declared.low.Low.{Low as LowOf}
use Rattle.audit_widths.specs.declared.misfit.Misfit.{Misfit}
use Rattle.audit_widths.specs.declared.misfit.SlotWidth.{SlotWidth}
use Rattle.audit_widths.specs.declared.misfit.SlotWidth.TheVariants.{Low, Total}
use Rattle.audit_widths.specs.declared.spread.Widths.{Widths}
use Rattle.audit_widths.specs.Misfits.{fits, slot_bit}
use Rattle.audit_widths.specs.Spreads.{sum_of, with_slots}
use Rattle.audit_report.specs.declared.widths.WidthOuts.{WidthOuts}

-- slots are counted from 1, and slot 0 is the start bit
abbrev pub is_ack : ℕ → Bool
is_ack slot = nat_lt 0 slot && (slot % 10 == 0)

-- a low stretch with what its initiator drives of it
abbrev pub own_low : ℕ → LowOf → LowOf
own_low slot low = if is_ack slot then record { fall = low.fall; rise = None; next = low.next } else low

-- and with what its follower does
abbrev pub ack_low : List Bool → ℕ → LowOf → LowOf
ack_low bits slot low = record { fall = low.fall; rise = if is_ack slot && not (slot_bit bits slot) then low.rise else None; next = None }

-- widths with those of the initiator, of the slots from one on of a reading that ended so after these bits
abbrev pub with_own : Ending → List Bool → ℕ → List LowOf → Widths → Widths
with_own ending bits slot [] w = w
with_own ending bits slot (low ∷ lows) w = with_own ending bits (slot + 1) lows (with_slots ending bits slot (own_low slot low ∷ []) w)

-- with those of the follower
abbrev pub with_taken : Ending → List Bool → ℕ → List LowOf → Widths → Widths
with_taken ending bits slot [] w = w
with_taken ending bits slot (low ∷ lows) w = with_taken ending bits (slot + 1) lows (with_slots ending bits slot (ack_low bits slot low ∷ []) w)

-- ---- those that are out of their windows

-- a 0 is low for 1,500 (CEC 5.2.2): it is the window of a 0
abbrev pub is_zero : Misfit → Bool
is_zero m = fits m.window 1500

abbrev pub is_ack_by : SlotWidth → ℕ → Bool
is_ack_by Low slot = is_ack slot
is_ack_by Total slot = false

abbrev pub is_ack_low : Misfit → Bool
is_ack_low m = is_ack_by m.kind m.slot

abbrev pub with_start_out : SlotWidth → WidthOuts → WidthOuts
with_start_out Low o = record o { start_low = sum_of o.start_low 1 }
with_start_out Total o = record o { start_total = sum_of o.start_total 1 }

abbrev pub with_low_out : Misfit → WidthOuts → WidthOuts
with_low_out m o =
    if not (is_zero m) then record o { one_low = sum_of o.one_low 1 }
    else if is_ack m.slot then record o { ack_low = sum_of o.ack_low 1 }
    else record o { zero_low = sum_of o.zero_low 1 }

abbrev pub with_bit_out : SlotWidth → Misfit → WidthOuts → WidthOuts
with_bit_out Low m o = with_low_out m o
with_bit_out Total m o = record o { total = sum_of o.total 1 }

-- one more
abbrev pub with_out : Misfit → WidthOuts → WidthOuts
with_out m o = if m.slot == 0 then with_start_out m.kind o else with_bit_out m.kind m o
