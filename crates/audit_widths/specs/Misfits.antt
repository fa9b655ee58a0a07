-- Which widths of a reading are out of their windows (CEC 5.2.1: start bit; 5.2.2: data bits; 7.4: the low drive that
-- breaks a message, 1.4 to 1.6 nominal bit periods). Widths in microseconds.
use Rattle.std.specs.Prelude.{ℕ, ◌-◌, ◌==◌, Bool, true, false, not, nat_lt, nat_le, ◌&&◌, if◌then◌else◌, List, [], ◌∷◌, length, slice_index_or, Option, Some, None}
use Rattle.line_frames.specs.FreeTime.{free_time_of}
use Rattle.line_frames.specs.declared.free_time.FreeTime.TheVariants.{Retry}
use Rattle.line_frames.specs.declared.Ending.{Ending}
use Rattle.line_frames.specs.declared.Ending.TheVariants.{Complete, Short, Long}
use Rattle.line_reading.specs.declared.times.Span.{Span}
use Rattle.line_reading.specs.Windows.{standard}
use Rattle.audit_widths.specs.declared.low.Low.{Low as LowOf}
use Rattle.audit_widths.specs.declared.misfit.WidthWindow.{WidthWindow}
use Rattle.audit_widths.specs.declared.misfit.SlotWidth.{SlotWidth}
use Rattle.audit_widths.specs.declared.misfit.SlotWidth.TheVariants.{Low, Total}
use Rattle.audit_widths.specs.declared.misfit.Misfit.{Misfit}

abbrev pub window : ℕ → ℕ → WidthWindow
window least greatest = record { least = least; greatest = greatest }

-- the same as the rule of reading has it
abbrev pub window_of : Span → WidthWindow
window_of s = window s.least s.most

-- within it, its ends too
abbrev pub fits : WidthWindow → ℕ → Bool
fits w width = nat_le w.least width && nat_le width w.greatest

-- ---- windows

-- The bit of a slot, counted from 1. A slot that was not sampled rose before its sample, and counts as a 1 (own).
abbrev pub slot_bit : List Bool → ℕ → Bool
slot_bit bits slot = slice_index_or bits (slot - 1) true

-- slot 0 is the start bit (CEC 5.2.1); a 1 is low for 600, a 0 for 1,500, both within 200 (CEC 5.2.2)
abbrev pub low_window : List Bool → ℕ → WidthWindow
low_window bits slot = if slot == 0 then window_of standard.start_low else if slot_bit bits slot then window 400 800 else window 1300 1700

abbrev pub total_window : ℕ → WidthWindow
total_window slot = if slot == 0 then window_of standard.start_total else window_of standard.bit_total

-- ---- what is out of them

-- a width that does not fit
abbrev pub misfit_of : ℕ → SlotWidth → WidthWindow → ℕ → Option Misfit
misfit_of slot kind w width = if fits w width then None else Some (record { slot = slot; kind = kind; micros = width; window = w })

-- how long the line was low; nothing is said where the capture ends before its rise
abbrev pub low_by : List Bool → ℕ → ℕ → Option ℕ → Option Misfit
low_by bits slot fall None = None
low_by bits slot fall (Some rise) = misfit_of slot Low (low_window bits slot) (rise - fall)

abbrev pub low_misfit : List Bool → ℕ → LowOf → Option Misfit
low_misfit bits slot low = low_by bits slot low.fall low.rise

-- a reading that ended with all its blocks
abbrev pub has_all : Ending → Bool
has_all Complete = true
has_all Long = true
has_all _ = false

-- The time to the next fall is a bit's, but for the last bit of a whole reading, after which the line is free; and a fall
-- that comes the shortest signal free time (CEC 9.1) or more after it begins something else (own).
abbrev pub is_total : Ending → ℕ → ℕ → ℕ → Bool
is_total ending last slot total = nat_lt total (free_time_of Retry) && not (has_all ending && (slot == last))

abbrev pub total_by : Ending → ℕ → ℕ → ℕ → Option ℕ → Option Misfit
total_by ending last slot fall None = None
total_by ending last slot fall (Some next) =
    if is_total ending last slot (next - fall) then misfit_of slot Total (total_window slot) (next - fall) else None

abbrev pub total_misfit : Ending → List Bool → ℕ → LowOf → Option Misfit
total_misfit ending bits slot low = total_by ending (length bits) slot low.fall low.next

-- ---- low drives

-- The fall that ended a reading as too short begins a low drive where the line then stays low for longer than any bit
-- (CEC 7.4; that it is told by its length is own).
abbrev pub drive_by : ℕ → Option ℕ → Option ℕ
drive_by fall None = None
drive_by fall (Some rise) = if nat_lt 1700 (rise - fall) then Some (rise - fall) else None

abbrev pub low_drive : Ending → LowOf → Option ℕ
low_drive Short low = drive_by low.fall low.rise
low_drive _ low = None

-- A low drive that begins while the line is low makes one low stretch of both: as long as a drive at least, and at most by a
-- bit's low period longer (CEC 5.2.2, 7.4; that it is told by its length is own). It ends the frame, so that it is the last
-- slot's. The first low stretch of a reading is the start bit.
abbrev pub last_of : Option LowOf → List LowOf → Option LowOf
last_of last [] = last
last_of last (low ∷ lows) = last_of (Some low) lows

abbrev pub last_slot : List LowOf → Option LowOf
last_slot [] = None
last_slot (start ∷ lows) = last_of None lows

abbrev pub long_by : ℕ → Option ℕ → Option ℕ
long_by fall None = None
long_by fall (Some rise) = if fits (window 3360 5540) (rise - fall) then Some (rise - fall) else None

abbrev pub long_low : Option LowOf → Option ℕ
long_low None = None
long_low (Some low) = long_by low.fall low.rise

abbrev pub drive_within : List LowOf → Option ℕ
drive_within lows = long_low (last_slot lows)
