-- Where a receiver of a line stands at an instant, by the line's readings up to it (own).
use Rattle.std.specs.Prelude.{◌≡◌, ℕ, zero, suc, ◌+◌, ◌-◌, Bool, false, nat_lt, if◌then◌else◌, List, [], ◌∷◌, length, is_some, Option, Some, None, refl}
use Rattle.std.specs.List.{filter_map}
use Rattle.line_wave.specs.declared.Stretch.{Stretch}
use Rattle.line_wave.specs.Line.{Line, line_of, is_fall, is_rise}
use Rattle.line_wave.specs.Sender.{sender_stretches}
use Rattle.line_reading.specs.Reading.{first_in, Read, Slot, known_at, reading_by, read_slots}
use Rattle.line_reading.specs.declared.times.Windows.{Windows}
use Rattle.line_reading.specs.Windows.{standard}

pub data Standing : Type 0 where
  Idle : Standing
  StartLow : Standing
  StartHigh : Standing
  InSlot : (slot : ℕ) → (bits : List Bool) → Standing
  WaitHigh : Standing

-- in a reading from e that has not ended: what is known by the end of microsecond t
abbrev pub in_reading : Line → ℕ → ℕ → List Slot → Standing
in_reading low e t [] = if is_some (first_in (is_rise low) (e + 1) (t - e)) then StartHigh else StartLow
in_reading low e t (s ∷ ss) = InSlot (length (s ∷ ss)) (filter_map (λ x. x.bit) (s ∷ ss))

-- outside a reading
abbrev pub at_rest : Bool → Standing
at_rest low = if low then WaitHigh else Idle

-- the reading that began at e, or what comes after it
abbrev pub stands_by : Line → ℕ → ℕ → Read → (ℕ → Standing) → Standing
stands_by low t e r later = if nat_lt t r.at then in_reading low e t (known_at (t + 1) r).slots else later (r.until + 1)

abbrev pub stands_from_by : Windows → Line → ℕ → Option ℕ → (ℕ → Standing) → Standing
stands_from_by w low t None later = at_rest (low t)
stands_from_by w low t (Some e) later = stands_by low t e (reading_by w low e) later

-- the standing at t, where readings begin at `from` or later, over at most `readings` of them
unfoldable pub standing_from_by : Windows → Line → ℕ → ℕ → ℕ → Standing
standing_from_by w low t zero from = at_rest (low t)
standing_from_by w low t (suc readings) from = stands_from_by w low t (first_in (is_fall low) from (t + 1 - from)) (standing_from_by w low t readings)

-- a reading takes a microsecond at least
abbrev pub standing_with : Windows → Line → ℕ → Standing
standing_with w low t = standing_from_by w low t (t + 1) 0

-- ---- the same by the standard's windows

unfoldable pub standing_from : Line → ℕ → ℕ → ℕ → Standing
unfolding standing_from_by read_slots
standing_from low t readings from = standing_from_by standard low t readings from

abbrev pub standing_of : Line → ℕ → Standing
standing_of low t = standing_from low t (t + 1) 0

-- a start bit and a 0 that begin at 200: just before, at the start, at the first rise, and in the slot before its sample
zero_bit : List Stretch
zero_bit = sender_stretches 200 (false ∷ [])

zero_row : (standing_of (line_of zero_bit) 199 ≡ Idle) × (standing_of (line_of zero_bit) 200 ≡ StartLow) × (standing_of (line_of zero_bit) 3900 ≡ StartHigh)
    × (standing_of (line_of zero_bit) 4700 ≡ InSlot 1 [])
unfolding zero_bit standing_from first_in read_slots
zero_row = (refl, refl, refl, refl)
