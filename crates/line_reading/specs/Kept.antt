-- What a receiver of a line keeps at an instant, and what it learns at that instant, by the line's readings (own).
use Rattle.std.specs.Prelude.{◌≡◌, ℕ, zero, suc, ◌+◌, ◌-◌, ◌==◌, Bool, true, false, nat_lt, if◌then◌else◌, List, [], ◌∷◌, length, is_some, Option, Some, None}
use Rattle.std.specs.List.{filter_map}
use Rattle.line_wave.specs.Line.{Line, is_fall, is_rise}
use Rattle.line_frames.specs.declared.Ending.{Ending}
use Rattle.line_reading.specs.declared.receiver.ReceiverState.{ReceiverState}
use Rattle.line_reading.specs.declared.receiver.ReceiverState.TheVariants.{Rest, StartLow, StartHigh, Unsampled, Sampled}
use Rattle.line_reading.specs.declared.receiver.Told.{Told}
use Rattle.line_reading.specs.declared.receiver.Told.TheVariants.{Nothing, Bit, Last, Ended}
use Rattle.line_reading.specs.Reading.{first_in, Slot, known_at, read_slots, reading_by, reading_of}
use Rattle.line_reading.specs.declared.times.Windows.{Windows}
use Rattle.line_reading.specs.Windows.{standard, sample_at}
use Rattle.line_reading.specs.Phase.{Standing, at_rest, standing_with, standing_of}
use Rattle.line_reading.specs.Phase as phase
use Rattle.line_reading.specs.Hears.{Hears, rest}

-- ---- the reading that runs at t: it has begun, and has not ended by t

abbrev pub runs_on_by : Windows → Line → ℕ → Option ℕ → (ℕ → Option ℕ) → Option ℕ
runs_on_by w low t None later = None
runs_on_by w low t (Some e) later = if nat_lt t (reading_by w low e).at then Some e else later ((reading_by w low e).until + 1)

-- its fall, where readings begin at `from` or later, over at most `readings` of them
unfoldable pub running_from_by : Windows → Line → ℕ → ℕ → ℕ → Option ℕ
running_from_by w low t zero from = None
running_from_by w low t (suc readings) from = runs_on_by w low t (first_in (is_fall low) from (t + 1 - from)) (running_from_by w low t readings)

abbrev pub running_by : Windows → Line → ℕ → Option ℕ
running_by w low t = running_from_by w low t (t + 1) 0

-- ---- what is kept by the end of microsecond t

-- the fall of the last of these slots
abbrev pub last_fall : ℕ → List Slot → ℕ
last_fall fall [] = fall
last_fall fall (s ∷ ss) = last_fall s.fall ss

-- of a reading that runs since e: its fall, the fall of its last slot, and the bits sampled so far
abbrev pub kept_in : Line → ℕ → ℕ → List Slot → Hears
kept_in low t e [] = record { place = if is_some (first_in (is_rise low) (e + 1) (t - e)) then StartHigh else StartLow; begin = e; fall = 0; bits = [] }
kept_in low t e (s ∷ ss) = record {
  place = if length (filter_map (λ x. x.bit) (s ∷ ss)) == length (s ∷ ss) then Sampled else Unsampled;
  begin = e;
  fall = last_fall s.fall ss;
  bits = filter_map (λ x. x.bit) (s ∷ ss);
}

abbrev pub kept_since : Windows → Line → ℕ → Option ℕ → Hears
kept_since w low t None = rest
kept_since w low t (Some e) = kept_in low t e (known_at (t + 1) (reading_by w low e)).slots

abbrev pub kept_with : Windows → Line → ℕ → Hears
kept_with w low t = kept_since w low t (running_by w low t)

-- before a microsecond: by the end of the one before
abbrev pub kept_with_before : Windows → Line → ℕ → Hears
kept_with_before w low zero = rest
kept_with_before w low (suc t) = kept_with w low t

-- where one who keeps this stands
abbrev pub standing_by : Hears → Bool → Standing
standing_by h is_low = stands h.place
  where
    stands : ReceiverState → Standing
    stands Rest = at_rest is_low
    stands StartLow = phase.StartLow
    stands StartHigh = phase.StartHigh
    stands Unsampled = phase.InSlot (length h.bits + 1) h.bits
    stands Sampled = phase.InSlot (length h.bits) h.bits

-- That is the standing of the line's readings.
abbrev pub StandingsAreKeptBy : Windows → Type 0
StandingsAreKeptBy w = (low : ℕ → Bool) (t : ℕ) → standing_by (kept_with w low t) (low t) ≡ standing_with w low t

-- ---- what instant t adds to the reading that ran before it: a sample, an ending, or both

-- the slot, counted from n, that is sampled at t, and its bit
pub record Sample : Type 0 where
  pub slot : ℕ
  pub value : Bool

abbrev pub sample_of : ℕ → Option Bool → Option Sample
sample_of n None = None
sample_of n (Some value) = Some (record { slot = n; value = value })

abbrev pub sample_in : ℕ → ℕ → List Slot → Option Sample
sample_in t n [] = None
sample_in t n (s ∷ ss) = if s.fall + sample_at == t then sample_of n s.bit else sample_in t (n + 1) ss

abbrev pub reported_with : Option Sample → Bool → Ending → Told
reported_with None true ending = Ended ending
reported_with None false ending = Nothing
reported_with (Some s) true ending = Last s.value ending
reported_with (Some s) false ending = Bit s.slot s.value

abbrev pub reported_since : Windows → Line → ℕ → Option ℕ → Told
reported_since w low t None = Nothing
reported_since w low t (Some e) = reported_with (sample_in t 1 (known_at (t + 1) (reading_by w low e)).slots) ((reading_by w low e).at == t) (reading_by w low e).ending

-- at 0 nothing has been read
abbrev pub reported_with_at : Windows → Line → ℕ → Told
reported_with_at w low zero = Nothing
reported_with_at w low (suc t) = reported_since w low (suc t) (running_by w low t)

-- ---- the same by the standard's windows

abbrev pub runs_on : Line → ℕ → Option ℕ → (ℕ → Option ℕ) → Option ℕ
runs_on low t None later = None
runs_on low t (Some e) later = if nat_lt t (reading_of low e).at then Some e else later ((reading_of low e).until + 1)

unfoldable pub running_from : Line → ℕ → ℕ → ℕ → Option ℕ
unfolding running_from_by read_slots
running_from low t readings from = running_from_by standard low t readings from

abbrev pub running_of : Line → ℕ → Option ℕ
running_of low t = running_from low t (t + 1) 0

abbrev pub kept_by : Line → ℕ → Option ℕ → Hears
kept_by low t None = rest
kept_by low t (Some e) = kept_in low t e (known_at (t + 1) (reading_of low e)).slots

abbrev pub kept_of : Line → ℕ → Hears
kept_of low t = kept_by low t (running_of low t)

abbrev pub kept_before : Line → ℕ → Hears
kept_before low zero = rest
kept_before low (suc t) = kept_of low t

-- That is the standing of the line's readings.
abbrev pub StandingsAreKept : Type 0
StandingsAreKept = (low : ℕ → Bool) (t : ℕ) → standing_by (kept_of low t) (low t) ≡ standing_of low t

abbrev pub reported_in : Line → ℕ → Option ℕ → Told
reported_in low t None = Nothing
reported_in low t (Some e) = reported_with (sample_in t 1 (known_at (t + 1) (reading_of low e)).slots) ((reading_of low e).at == t) (reading_of low e).ending

abbrev pub reported_at : Line → ℕ → Told
reported_at low zero = Nothing
reported_at low (suc t) = reported_in low (suc t) (running_of low t)
