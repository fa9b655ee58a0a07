-- What a receiver reports of a line's readings: the one that an instant ends, and the one that still runs (own).
use Rattle.std.specs.Prelude.{◌≡◌, ℕ, zero, suc, Bool, List, [], ◌∷◌, ◌++◌, Option, Some, None, option_map}
use Rattle.std.specs.Option.{option_to_list}
use Rattle.line_wave.specs.Line.{Line}
use Rattle.line_frames.specs.declared.Ending.{Ending}
use Rattle.line_frames.specs.declared.Ending.TheVariants.{Open}
use Rattle.line_frames.specs.declared.Reading.{Reading}
use Rattle.line_reading.specs.declared.receiver.ReceiverState.{ReceiverState}
use Rattle.line_reading.specs.declared.receiver.ReceiverState.TheVariants.{Rest, StartLow, StartHigh, Unsampled, Sampled}
use Rattle.line_reading.specs.declared.receiver.Told.{Told}
use Rattle.line_reading.specs.declared.receiver.Told.TheVariants.{Nothing, Bit, Last, Ended}
use Rattle.line_reading.specs.Readings.{Listed, readings_of}
use Rattle.line_reading.specs.Ended.{ended_by}
use Rattle.line_reading.specs.Hears.{Hears}
use Rattle.line_reading.specs.Kept.{kept_of, kept_before, reported_at}
use Rattle.line_reading.specs.Reading.{reported_by}

-- a reading as it stands in a line's list
abbrev pub listed_as : Reading → Listed
listed_as r = record { begin = r.begin; reported = reported_by r }

-- a reading from `begin` that ended so at t, or is open then
abbrev pub ends_with : ℕ → ℕ → Ending → List Bool → Listed
ends_with begin t ending bits = record { begin = begin; reported = record { bits = bits; ending = ending; at = t } }

-- the reading that runs, as far as it was heard by t
abbrev pub running_by : Hears → ℕ → Option Listed
running_by h t = runs_at h.place
  where
    runs_at : ReceiverState → Option Listed
    runs_at Rest = None
    runs_at StartLow = Some (ends_with h.begin t Open h.bits)
    runs_at StartHigh = Some (ends_with h.begin t Open h.bits)
    runs_at Unsampled = Some (ends_with h.begin t Open h.bits)
    runs_at Sampled = Some (ends_with h.begin t Open h.bits)

-- the reading that ran, where instant t ended it
abbrev pub ended_of : Told → ℕ → Option Listed → Option Listed
ended_of Nothing t running = None
ended_of (Bit slot value) t running = None
ended_of (Last value ending) t running = option_map (λ x. ends_with x.begin t ending (x.reported.bits ++ value ∷ [])) running
ended_of (Ended ending) t running = option_map (λ x. ends_with x.begin t ending x.reported.bits) running

-- the readings that have ended before microsecond n
abbrev pub ended_before : Line → ℕ → List Listed
ended_before low zero = []
ended_before low (suc t) = ended_by low t

-- Instant n ends the reading that it reports, and no other.
abbrev pub EndingsAreReported : Type 0
EndingsAreReported = (low : ℕ → Bool) (n : ℕ)
    → ended_by low n ≡ ended_before low n ++ option_to_list (ended_of (reported_at low n) n (running_by (kept_before low n) n))

-- A line's readings, cut at t, are those that have ended by t and the one that runs then.
abbrev pub RunningIsKept : Type 0
RunningIsKept = (low : ℕ → Bool) (t : ℕ) → readings_of low t ≡ ended_by low t ++ option_to_list (running_by (kept_of low t) t)
