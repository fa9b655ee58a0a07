-- How long a sender goes on, told by told.
use Rattle.std.proofs.Common.{◌≡◌, ℕ, ◌+◌, ◌==◌, Bool, true, false, not, nat_lt, if◌then◌else◌, List, [], ◌∷◌, ◌++◌, length, Option, Some, None, refl}
use Rattle.line_frames.specs.declared.Ending.{Ending}
use Rattle.line_frames.specs.declared.Ending.TheVariants.{Short, Silent, BadStart}
use Rattle.line_reading.specs.declared.receiver.ReceiverState.{ReceiverState}
use Rattle.line_reading.specs.declared.receiver.ReceiverState.TheVariants.{Rest, StartLow, StartHigh, Unsampled, Sampled}
use Rattle.line_reading.specs.declared.receiver.Told.{Told}
use Rattle.line_reading.specs.declared.receiver.Told.TheVariants.{Nothing, Bit, Last, Ended}
use Rattle.line_reading.specs.Reading.{last_ending}
use Rattle.line_reading.specs.Hears.{Hears, Heard, reported_so, rest, starts, sample_as, hear_at}
use Rattle.line_reading.specs.Places.{runs_in}

-- ---- what a microsecond leads to, while the reading runs

abbrev pub GoesBy : ℕ → List Bool → Hears → Told → Type 0
GoesBy begin bits h Nothing = (runs_in h.place h.begin ≡ Some begin) × (h.bits ≡ bits)
GoesBy begin bits h (Bit slot value) = (runs_in h.place h.begin ≡ Some begin) × (h.bits ≡ bits ++ value ∷ []) × (slot ≡ length bits + 1)
GoesBy begin bits h (Last value ending) = Unit {0}
GoesBy begin bits h (Ended ending) = Unit {0}

pub goes_by : (n : ℕ) (place : ReceiverState) (begin fall : ℕ) (bits : List Bool) (falls rises is_low : Bool) (b : ℕ) → runs_in place begin ≡ Some b
    → GoesBy begin bits (hear_at place n falls rises is_low (record { place = place; begin = begin; fall = fall; bits = bits })).state (hear_at place n falls rises is_low (record { place = place; begin = begin; fall = fall; bits = bits })).reported
goes_by n Rest begin fall bits falls rises is_low b e = cc
goes_by n StartLow begin fall bits falls rises is_low b e = by_tests (nat_lt (begin + 3900) n) rises (nat_lt n (begin + 3500))
  where
    go : Bool → Bool → Bool → Heard
    go x y z = if x then reported_so (starts n falls) (Ended BadStart)
        else if y then (if z then reported_so rest (Ended BadStart) else reported_so (record { place = StartHigh; begin = begin; fall = fall; bits = bits }) Nothing) else reported_so (record { place = StartLow; begin = begin; fall = fall; bits = bits }) Nothing

    by_tests : (x y z : Bool) → GoesBy begin bits (go x y z).state (go x y z).reported
    by_tests true y z = tt
    by_tests false true true = tt
    by_tests false true false = (refl, refl)
    by_tests false false z = (refl, refl)
goes_by n StartHigh begin fall bits falls rises is_low b e = by_tests (nat_lt (begin + 4700) n) falls (nat_lt n (begin + 4300))
  where
    go : Bool → Bool → Bool → Heard
    go x y z = if x then reported_so (starts n falls) (Ended BadStart)
        else if y then (if z then reported_so rest (Ended BadStart) else reported_so (record { place = Unsampled; begin = begin; fall = n; bits = bits }) Nothing) else reported_so (record { place = StartHigh; begin = begin; fall = fall; bits = bits }) Nothing

    by_tests : (x y z : Bool) → GoesBy begin bits (go x y z).state (go x y z).reported
    by_tests true y z = tt
    by_tests false true true = tt
    by_tests false true false = (refl, refl)
    by_tests false false z = (refl, refl)
goes_by n Unsampled begin fall bits falls rises is_low b e = by_tests falls (n == fall + 1050) (last_ending bits)
  where
    h : Hears
    h = record { place = Unsampled; begin = begin; fall = fall; bits = bits }

    go : Bool → Bool → Option Ending → Heard
    go x y last = if x then reported_so rest (Ended Short) else if y then sample_as last (not is_low) (record { place = Unsampled; begin = begin; fall = fall; bits = bits })
        else reported_so (record { place = Unsampled; begin = begin; fall = fall; bits = bits }) Nothing

    by_tests : (x y : Bool) (last : Option Ending) → GoesBy begin bits (go x y last).state (go x y last).reported
    by_tests true y last = tt
    by_tests false true None = (refl, refl, refl)
    by_tests false true (Some ending) = tt
    by_tests false false last = (refl, refl)
goes_by n Sampled begin fall bits falls rises is_low b e = by_tests (nat_lt (fall + 2750) n) falls (nat_lt n (fall + 2050))
  where
    go : Bool → Bool → Bool → Heard
    go x y z = if x then reported_so (starts n falls) (Ended Silent)
        else if y then (if z then reported_so rest (Ended Short) else reported_so (record { place = Unsampled; begin = begin; fall = n; bits = bits }) Nothing) else reported_so (record { place = Sampled; begin = begin; fall = fall; bits = bits }) Nothing

    by_tests : (x y z : Bool) → GoesBy begin bits (go x y z).state (go x y z).reported
    by_tests true y z = tt
    by_tests false true true = tt
    by_tests false true false = (refl, refl)
    by_tests false false z = (refl, refl)
