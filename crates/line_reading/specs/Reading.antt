-- The reading of a line from a fall: the start bit, then slot by slot. The order is the standard's (CEC 5.2: start
-- bit and data bits; CEC 6: blocks of ten bits; CEC 7.4: a bit too short or too long breaks a message). The windows,
-- the sampling instant and the endings are this profile's own, about the standard's nominal times: 3,700 low of 4,500
-- for the start bit, 2,400 for a data bit that is low for 600 or 1,500. All in whole microseconds.
use Rattle.std.specs.Prelude.{ℕ, zero, suc, ◌+◌, ◌-◌, ◌%◌, ◌==◌, Bool, false, not, nat_lt, if◌then◌else◌, List, [], ◌∷◌, ◌++◌, length, slice_index_or, map, min, Option, Some, None, Result, Ok, Err}
use Rattle.std.specs.Option.{option_to_list}
use Rattle.std.specs.List.{filter_map}
use Rattle.line_wave.specs.Line.{Line, is_fall, is_rise}
use Rattle.line_frames.specs.declared.Reading.{Reading}
use Rattle.line_frames.specs.declared.Ending.{Ending}
use Rattle.line_frames.specs.declared.Ending.TheVariants.{Complete, Short, Silent, BadStart, Long, Open}
use Rattle.line_frames.specs.Bits.{most_bits}
use Rattle.line_reading.specs.declared.times.Windows.{Windows}
use Rattle.line_reading.specs.Windows.{standard, sample_at}

-- the first of the `count` microseconds from `from` on that passes the test
unfoldable pub first_in : (ℕ → Bool) → ℕ → ℕ → Option ℕ
first_in test from zero = None
first_in test from (suc count) = if test from then Some from else first_in test (from + 1) count

-- the first fall, or rise, after e and up to `within` after it
abbrev pub next_fall : Line → ℕ → ℕ → Option ℕ
next_fall low e within = first_in (is_fall low) (e + 1) within

abbrev pub next_rise : Line → ℕ → ℕ → Option ℕ
next_rise low e within = first_in (is_rise low) (e + 1) within

-- the start bit: the fall of slot 1, or the instant at which it is bad (CEC 5.2.1; windows own). The first rise is
-- due in its window after e, and the next fall in the window of the whole start bit
abbrev pub start_fall_by : Windows → ℕ → Option ℕ → Result ℕ ℕ
start_fall_by w e None = Err (e + (w.start_total.most + 1))
start_fall_by w e (Some fall) = if nat_lt fall (e + w.start_total.least) then Err fall else Ok fall

abbrev pub start_rise_by : Windows → Line → ℕ → Option ℕ → Result ℕ ℕ
start_rise_by w low e None = Err (e + (w.start_low.most + 1))
start_rise_by w low e (Some rise) =
    if nat_lt rise (e + w.start_low.least) then Err rise else start_fall_by w e (next_fall low rise (e + w.start_total.most - rise))

abbrev pub start_by : Windows → Line → ℕ → Result ℕ ℕ
start_by w low e = start_rise_by w low e (next_rise low e w.start_low.most)

abbrev pub start_fall : ℕ → Option ℕ → Result ℕ ℕ
start_fall = start_fall_by standard

abbrev pub start_rise : Line → ℕ → Option ℕ → Result ℕ ℕ
start_rise = start_rise_by standard

abbrev pub start_of : Line → ℕ → Result ℕ ℕ
start_of = start_by standard

-- how the slot after these bits ends the reading where nothing breaks it, if it is a last one: the acknowledge slot
-- of a block whose end-of-message bit (EOM) was read 1 (CEC 6.1), or slot 160 (own)
abbrev pub last_ending : List Bool → Option Ending
last_ending bits =
    if length bits % 10 == 9
    then (if slice_index_or bits (length bits - 1) false then Some Complete else if length bits == 159 then Some Long else None)
    else None

-- what a slot leads to: the next slot, which falls at this instant, or the reading's ending at this one
pub data After : Type 0 where
  Next : (fall : ℕ) → After
  Ends : (ending : Ending) → (at : ℕ) → After

-- after a slot that is none, the next fall is due in the window of a bit (CEC 5.2.2; window own)
abbrev pub after_fall_by : Windows → ℕ → Option ℕ → After
after_fall_by w e None = Ends Silent (e + (w.bit_total.most + 1))
after_fall_by w e (Some fall) = if nat_lt fall (e + w.bit_total.least) then Ends Short fall else Next fall

-- a last slot ends the reading at its sample, or at a fall before it (own)
abbrev pub after_last : ℕ → Ending → Option ℕ → After
after_last e ending None = Ends ending (e + sample_at)
after_last e ending (Some fall) = Ends Short fall

-- what the slot that falls at e leads to
abbrev pub after_by : Windows → Line → ℕ → Option Ending → After
after_by w low e None = after_fall_by w e (next_fall low e w.bit_total.most)
after_by w low e (Some ending) = after_last e ending (next_fall low e sample_at)

abbrev pub after_fall : ℕ → Option ℕ → After
after_fall = after_fall_by standard

abbrev pub after_slot : Line → ℕ → Option Ending → After
after_slot = after_by standard

-- the bit is sampled so long after the slot's fall, unless a fall comes first, at the sample's instant too; it is 1 where
-- the line is high (CEC 5.2.2: 1,050 nominally; own that a fall goes before)
abbrev pub sample : Line → ℕ → Option ℕ → Option Bool
sample low e None = Some (not (low (e + sample_at)))
sample low e (Some fall) = None

abbrev pub bit_sampled_at : Line → ℕ → Option Bool
bit_sampled_at low e = sample low e (next_fall low e sample_at)

-- a slot as it is read: its fall, and its bit if it was sampled (own)
pub record Slot : Type 0 where
  pub fall : ℕ
  pub bit : Option Bool

-- a reading: its slots, how it ended and when, and the last microsecond that belongs to it: a fall after that one
-- begins the next reading (own)
pub record Read : Type 0 where
  pub slots : List Slot
  pub ending : Ending
  pub at : ℕ
  pub until : ℕ

-- that it is silent is known once the last microsecond of the wait is over: a fall at the instant of that ending
-- belongs to the next reading (own)
abbrev pub last_heard : Ending → ℕ → ℕ
last_heard Silent at = at - 1
last_heard _ at = at

-- the bits that were sampled, and the falls of the slots
abbrev pub bits_of : Read → List Bool
bits_of r = filter_map (λ s. s.bit) r.slots

abbrev pub falls_of : Read → List ℕ
falls_of r = map (λ s. s.fall) r.slots

-- a slot, and the rest of a reading
abbrev pub read_then : Slot → Read → Read
read_then slot r = record { slots = slot ∷ r.slots; ending = r.ending; at = r.at; until = r.until }

-- what follows a slot
abbrev pub read_on : (ℕ → Read) → After → Read
read_on rest (Next fall) = rest fall
read_on rest (Ends ending at) = record { slots = []; ending = ending; at = at; until = last_heard ending at }

-- the rest of a reading after `bits`, from the slot that falls at e on, where `left` slots are left
unfoldable pub slots_by : Windows → Line → ℕ → List Bool → ℕ → Read
slots_by w low zero bits e = record { slots = []; ending = Open; at = e; until = e }
slots_by w low (suc left) bits e =
    read_then (record { fall = e; bit = bit_sampled_at low e })
    (read_on (slots_by w low left (bits ++ option_to_list (bit_sampled_at low e))) (after_by w low e (last_ending bits)))

-- a bad start with no fall by the end of its window leaves the instant at which that is known to the next reading (own)
abbrev pub read_start_by : Windows → Line → ℕ → Result ℕ ℕ → Read
read_start_by w low e (Ok fall) = slots_by w low most_bits [] fall
read_start_by w low e (Err at) = record { slots = []; ending = BadStart; at = at; until = min at (e + w.start_total.most) }

-- the reading of a line from a fall at e: of at most 160 slots (CEC 6)
abbrev pub reading_by : Windows → Line → ℕ → Read
reading_by w low e = read_start_by w low e (start_by w low e)

-- ---- the same by the standard's windows

unfoldable pub read_slots : Line → ℕ → List Bool → ℕ → Read
unfolding slots_by
read_slots low left bits e = slots_by standard low left bits e

abbrev pub read_start : Line → ℕ → Result ℕ ℕ → Read
read_start low e (Ok fall) = read_slots low most_bits [] fall
read_start low e (Err at) = record { slots = []; ending = BadStart; at = at; until = min at (e + standard.start_total.most) }

abbrev pub reading_of : Line → ℕ → Read
reading_of low e = read_start low e (start_of low e)

-- ---- a reading as far as the line before t gives it: what falls at t or later is not known yet (own)

-- how it ended, when, and the last microsecond that belongs to it
pub record End : Type 0 where
  pub ending : Ending
  pub at : ℕ
  pub until : ℕ

pub record Known : Type 0 where
  pub slots : List Slot
  pub ended : Option End

-- a slot's bit is known after its sample
abbrev pub known_slot : ℕ → Slot → Slot
known_slot t s = record { fall = s.fall; bit = if nat_lt (s.fall + sample_at) t then s.bit else None }

abbrev pub known_slots : ℕ → List Slot → List Slot
known_slots t [] = []
known_slots t (s ∷ ss) = if nat_lt s.fall t then known_slot t s ∷ known_slots t ss else []

abbrev pub known_at : ℕ → Read → Known
known_at t r = record { slots = known_slots t r.slots; ended = if nat_lt r.until t then Some (record { ending = r.ending; at = r.at; until = r.until }) else None }

-- what is reported of a reading: its bits, how it ended, and when (own)
pub record Told : Type 0 where
  pub bits : List Bool
  pub ending : Ending
  pub at : ℕ

abbrev pub reported_of : Read → Told
reported_of r = record { bits = bits_of r; ending = r.ending; at = r.at }

-- the same of a reading of the code
abbrev pub reported_by : Reading → Told
reported_by reading = record { bits = reading.bits.items; ending = reading.ending; at = reading.at }
