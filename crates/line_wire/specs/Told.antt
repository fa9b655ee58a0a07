-- A round's line as its receiver is told it, and how the wire stands with the round's first microsecond. (own)
use Rattle.std.specs.Prelude.{◌≡◌, ℕ, zero, suc, ◌+◌, ◌-◌, ◌<◌, Bool, true, false, not, ◌&&◌, ◌||◌, nat_lt, nat_le}
use Rattle.line_wave.specs.Line.{Line, is_fall}
use Rattle.line_reading.specs.declared.receiver.Receiver.{Receiver}
use Rattle.line_reading.specs.declared.receiver.Told.{Told}
use Rattle.line_reading.specs.Windows.{standard}
use Rattle.line_reading.specs.Reading.{reading_of}
use Rattle.line_reading.specs.Hears.{heard_by, hear_in, reported_so, rest}

-- so many microseconds from an instant on are high
unfoldable pub is_high_for : Line → ℕ → ℕ → Bool
is_high_for low from zero = true
is_high_for low from (suc n) = not (low (from + n)) && is_high_for low from n

-- The receiver is told a fall as the round begins, whatever the line does. Where the line is high then, it is told low up to
-- the line's first fall, or for as long as a start bit may be low.
abbrev pub told_of : Line → ℕ → Line
told_of low begin u = low u || (nat_le begin u && (nat_lt u (begin + (standard.start_low.most + 1)) && is_high_for low begin (u + 1 - begin)))

-- a line that is high before a round begins, and falls no more once the round's reading is over
pub record IsLone (low : Line) (begin : ℕ) : Type 0 where
  pub before : (u : ℕ) → u < begin → low u ≡ false
  pub quiet : (u : ℕ) → (reading_of low begin).until < u → is_fall low u ≡ false

-- a receiver that keeps nothing hears the fall at `begin`
pub record FirstTicked (begin : ℕ) (r new : Receiver) (reported : Told) : Type 0 where
  pub fresh : heard_by r ≡ rest
  pub heard : reported_so (heard_by new) reported ≡ hear_in begin false true (heard_by r)
  pub level : (new.was_low ≡ true) × (new.is_low ≡ true)
