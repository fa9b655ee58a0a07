-- Who drives the line of a round, seat by seat: each pulls as the rule of a round says of it alone (CEC 5.2, 6.1, 7.4).
use Rattle.std.specs.Prelude.{◌≡◌, ℕ, zero, suc, Bool, true, ◌||◌, if◌then◌else◌, max, List, [], ◌∷◌, ◌++◌, map}
use Rattle.std.specs.List.{list_any}
use Rattle.line_wave.specs.declared.Stretch.{Stretch}
use Rattle.line_wave.specs.Line.{Line, IsWave, line_of, was_low}
use Rattle.line_reading.specs.Reading.{Known, known_at, reading_of}
use Rattle.line_rounds.specs.declared.Seat.{Seat}
use Rattle.line_rounds.specs.declared.Outcome.{Outcome}
use Rattle.line_rounds.specs.Lasting.{is_begun}
use Rattle.line_rounds.specs.Round.{frames_of, pulse_pulls, pulled_by, IsRound, IsRoundLine}

-- ---- the rule

-- a seat pulls at t, by the line just before t and what is known before t: as the rule of a round says of it alone, without
-- pulses
abbrev pub seat_pulls : ℕ → Bool → Known → ℕ → Seat → Bool
seat_pulls begin was k t seat = pulled_by (frames_of (seat ∷ [])) (seat ∷ []) begin [] was k t

-- the line that a seat drives, where the round's line is this one
abbrev pub seat_line : ℕ → Line → Seat → Line
seat_line begin low seat t = seat_pulls begin (was_low low t) (known_at t (reading_of low begin)) t seat

-- the line that the pulses drive
abbrev pub pulse_line : ℕ → List Stretch → Line → Line
pulse_line begin pulses low t = list_any (pulse_pulls begin (known_at t (reading_of low begin)).ended (was_low low t) t) pulses

-- The line of a round is low exactly where a pulse or one of its seats pulls.
abbrev pub LinesAreDriven : Type 0
LinesAreDriven = (seats : List Seat) (begin : ℕ) (pulses : List Stretch) (low : Line) → IsRoundLine seats begin pulses low
    → (t : ℕ) → low t ≡ (pulse_line begin pulses low t || list_any (λ seat. seat_line begin low seat t) seats)

-- ---- the drives of a round, as low stretches

-- a line before an instant, microsecond by microsecond (own)
unfoldable pub low_before : Line → ℕ → List Stretch
low_before low zero = []
low_before low (suc t) = if low t then record { from = t; to = suc t } ∷ low_before low t else low_before low t

-- where the last of these stretches ends (own)
abbrev pub end_of : List Stretch → ℕ
end_of [] = 0
end_of (s ∷ ss) = max s.to (end_of ss)

-- the line that each seat drives, and after them the line that the pulses drive, up to where the round's line is high for good
abbrev pub drives_of : List Seat → ℕ → List Stretch → Outcome → List (List Stretch)
drives_of seats begin pulses o =
    map (λ seat. low_before (seat_line begin (line_of o.wave) seat) (end_of o.wave)) seats ++ low_before (pulse_line begin pulses (line_of o.wave)) (end_of o.wave) ∷ []

-- a round in which somebody pulls at once, whatever pulls in order there are, gave this outcome
pub record IsBegunRound (seats : List Seat) (begin : ℕ) (pulses : List Stretch) (o : Outcome) : Type 0 where
  pub order : IsWave pulses
  pub wave : IsWave o.wave
  pub round : IsRound seats begin pulses o
  pub begun : is_begun seats begin pulses ≡ true

-- of these drives each is low exactly where its seat pulls
abbrev pub AreOfSeats : List Seat → ℕ → Outcome → List (List Stretch) → Type 0
AreOfSeats seats begin o drives =
    (pulses : List Stretch) → IsBegunRound seats begin pulses o → (t : ℕ) → map (λ ss. line_of ss t) drives ≡ map (λ seat. seat_line begin (line_of o.wave) seat t) seats

-- these stretches are low exactly where a pulse pulls
abbrev pub AreOfPulses : ℕ → List Stretch → ℕ → List Stretch → Type 0
AreOfPulses begin pulses rest begun =
    (seats : List Seat) (o : Outcome) → o.rest ≡ rest → IsBegunRound seats begin pulses o → (t : ℕ) → line_of begun t ≡ pulse_line begin pulses (line_of o.wave) t

-- ---- laws

-- The first drive of a round is low in a microsecond if and only if the first seat pulls then, and so for each seat in order; the
-- last one if and only if a pulse pulls then.
abbrev pub DrivesAreRuled : Type 0
DrivesAreRuled = (seats : List Seat) (begin : ℕ) (pulses : List Stretch) (o : Outcome) → IsWave o.wave → IsRound seats begin pulses o
    → (t : ℕ) → map (λ ss. line_of ss t) (drives_of seats begin pulses o) ≡ map (λ seat. seat_line begin (line_of o.wave) seat t) seats ++ pulse_line begin pulses (line_of o.wave) t ∷ []

-- The line of a round is low in a microsecond if and only if one of its drives is.
abbrev pub DrivesAreTheLine : Type 0
DrivesAreTheLine = (seats : List Seat) (begin : ℕ) (pulses : List Stretch) (o : Outcome) → IsWave o.wave → IsRound seats begin pulses o
    → (t : ℕ) → line_of o.wave t ≡ list_any (λ ss. line_of ss t) (drives_of seats begin pulses o)
