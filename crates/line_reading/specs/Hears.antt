-- A receiver, microsecond by microsecond: what it keeps of the line, and what each microsecond adds. The order
-- of a reading is the standard's (CEC 5.2 and 6); windows, sampling instant and endings are this profile's own.
use Rattle.std.specs.Prelude.{ℕ, zero, suc, ◌+◌, ◌==◌, Bool, false, not, nat_lt, ◌&&◌, if◌then◌else◌, List, [], ◌∷◌, ◌++◌, length, Option, Some, None}
use Rattle.line_wave.specs.Line.{Line, was_low}
use Rattle.line_frames.specs.declared.Ending.{Ending}
use Rattle.line_frames.specs.declared.Ending.TheVariants.{Short, Silent, BadStart}
use Rattle.line_reading.specs.declared.receiver.ReceiverState.{ReceiverState}
use Rattle.line_reading.specs.declared.receiver.ReceiverState.TheVariants.{Rest, StartLow, StartHigh, Unsampled, Sampled}
use Rattle.line_reading.specs.declared.receiver.Told.{Told}
use Rattle.line_reading.specs.declared.receiver.Told.TheVariants.{Nothing, Bit, Last, Ended}
use Rattle.line_reading.specs.declared.receiver.Receiver.{Receiver}
use Rattle.line_reading.specs.Reading.{last_ending}
use Rattle.line_reading.specs.declared.times.Windows.{Windows}
use Rattle.line_reading.specs.Windows.{standard, sample_at}

-- what is kept: where the reading that runs has come, its fall, the fall of its slot, and the bits sampled so far
pub record Hears : Type 0 where
  pub place : ReceiverState
  pub begin : ℕ
  pub fall : ℕ
  pub bits : List Bool

abbrev pub heard_by : Receiver → Hears
heard_by r = record { place = r.place; begin = r.begin; fall = r.fall; bits = r.bits.items }

abbrev pub hears_by : ReceiverState → ℕ → ℕ → List Bool → Hears
hears_by place begin fall bits = record { place = place; begin = begin; fall = fall; bits = bits }

-- outside a reading nothing is kept
abbrev pub rest : Hears
rest = record { place = Rest; begin = 0; fall = 0; bits = [] }

-- a reading begins where the line falls
abbrev pub starts : ℕ → Bool → Hears
starts t falls = if falls then record { place = StartLow; begin = t; fall = 0; bits = [] } else rest

-- what a microsecond leads to, and adds
pub record Heard : Type 0 where
  pub state : Hears
  pub reported : Told

abbrev pub reported_so : Hears → Told → Heard
reported_so h reported = record { state = h; reported = reported }

-- the start bit: its rise is due in its window after the fall (CEC 5.2.1; window own)
abbrev pub hear_start_low_by : Windows → ℕ → Bool → Bool → Hears → Heard
hear_start_low_by w t falls rises h =
    if nat_lt (h.begin + w.start_low.most) t then reported_so (starts t falls) (Ended BadStart)
    else if rises then (if nat_lt t (h.begin + w.start_low.least) then reported_so rest (Ended BadStart) else reported_so (record h { place = StartHigh }) Nothing)
    else reported_so h Nothing

-- the first slot's fall is due in its window after the start bit's (CEC 5.2.1; window own)
abbrev pub hear_start_high_by : Windows → ℕ → Bool → Hears → Heard
hear_start_high_by w t falls h =
    if nat_lt (h.begin + w.start_total.most) t then reported_so (starts t falls) (Ended BadStart)
    else if falls then (if nat_lt t (h.begin + w.start_total.least) then reported_so rest (Ended BadStart) else reported_so (record h { place = Unsampled; fall = t }) Nothing)
    else reported_so h Nothing

-- the bit is sampled so long after the slot's fall; in a last slot that ends the reading
abbrev pub sample_as : Option Ending → Bool → Hears → Heard
sample_as None value h = reported_so (record h { place = Sampled; bits = h.bits ++ value ∷ [] }) (Bit (length h.bits + 1) value)
sample_as (Some ending) value h = reported_so rest (Last value ending)

-- a fall before it, or with it, is too early
abbrev pub hear_unsampled : ℕ → Bool → Bool → Hears → Heard
hear_unsampled t falls is_low h =
    if falls then reported_so rest (Ended Short)
    else if t == h.fall + sample_at then sample_as (last_ending h.bits) (not is_low) h
    else reported_so h Nothing

-- the next slot's fall is due in its window after this one's
abbrev pub hear_sampled_by : Windows → ℕ → Bool → Hears → Heard
hear_sampled_by w t falls h =
    if nat_lt (h.fall + w.bit_total.most) t then reported_so (starts t falls) (Ended Silent)
    else if falls then (if nat_lt t (h.fall + w.bit_total.least) then reported_so rest (Ended Short) else reported_so (record h { place = Unsampled; fall = t }) Nothing)
    else reported_so h Nothing

abbrev pub hear_at_by : Windows → ReceiverState → ℕ → Bool → Bool → Bool → Hears → Heard
hear_at_by w Rest t falls rises is_low h = reported_so (starts t falls) Nothing
hear_at_by w StartLow t falls rises is_low h = hear_start_low_by w t falls rises h
hear_at_by w StartHigh t falls rises is_low h = hear_start_high_by w t falls h
hear_at_by w Unsampled t falls rises is_low h = hear_unsampled t falls is_low h
hear_at_by w Sampled t falls rises is_low h = hear_sampled_by w t falls h

-- with microsecond t, in which the line is low or not, and was low or not just before
abbrev pub hear_in_by : Windows → ℕ → Bool → Bool → Hears → Heard
hear_in_by w t was is_low h = hear_at_by w h.place t (is_low && not was) (not is_low && was) is_low h

-- of a line, in its first so many microseconds
unfoldable pub hears_with : Windows → Line → ℕ → Hears
hears_with w low zero = rest
hears_with w low (suc n) = (hear_in_by w n (was_low low n) (low n) (hears_with w low n)).state

-- the next instant that adds something, where no edge comes first
abbrev pub wake_of_by : Windows → Hears → Option ℕ
wake_of_by w h = wake_at h.place h.begin h.fall
  where
    wake_at : ReceiverState → ℕ → ℕ → Option ℕ
    wake_at Rest begin fall = None
    wake_at StartLow begin fall = Some (begin + (w.start_low.most + 1))
    wake_at StartHigh begin fall = Some (begin + (w.start_total.most + 1))
    wake_at Unsampled begin fall = Some (fall + sample_at)
    wake_at Sampled begin fall = Some (fall + (w.bit_total.most + 1))

-- how many wakes there can be before the next edge
abbrev pub wakes_left : ReceiverState → ℕ
wakes_left Rest = 0
wakes_left StartLow = 1
wakes_left StartHigh = 1
wakes_left Unsampled = 2
wakes_left Sampled = 1

-- ---- the same by the standard's windows

abbrev pub hear_at : ReceiverState → ℕ → Bool → Bool → Bool → Hears → Heard
hear_at = hear_at_by standard

abbrev pub hear_in : ℕ → Bool → Bool → Hears → Heard
hear_in = hear_in_by standard

unfoldable pub hears : Line → ℕ → Hears
unfolding hears_with
hears low n = hears_with standard low n

abbrev pub wake_of : Hears → Option ℕ
wake_of = wake_of_by standard

-- a receiver that stands so reports at t that the next fall did not come in time (CEC 5.2): the reading's last microsecond was
-- the one before
abbrev pub due_in : ReceiverState → ℕ → ℕ → ℕ → Bool
due_in StartHigh begin fall t = t == begin + (standard.start_total.most + 1)
due_in Sampled begin fall t = t == fall + (standard.bit_total.most + 1)
due_in _ begin fall t = false
