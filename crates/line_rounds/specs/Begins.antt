-- What holds of a round's line at its begin. (own)
use Rattle.std.specs.Prelude.{◌≡◌, ℕ, ◌<◌, ◌≤◌, true, List, [], None, Result}
use Rattle.std.specs.List.{filter_map}
use Rattle.line_wave.specs.declared.Stretch.{Stretch}
use Rattle.line_wave.specs.Line.{IsWave, Line, line_of}
use Rattle.line_wave.specs.Sender.{sender_stretches}
use Rattle.line_frames.specs.Bits.{frame_bits, least_among}
use Rattle.line_reading.specs.Reading.{Read, Slot, known_at, read_start, reading_of, start_of}
use Rattle.line_rounds.specs.declared.Seat.{Seat}
use Rattle.line_rounds.specs.Round.{IsRoundLine, frames_of}
use Rattle.line_rounds.specs.Contend.{IsContended, Stays}
use Rattle.line_rounds.specs.Lasting.{is_begun}
use Rattle.line_rounds.specs.Elements.{In}

-- before t these slots are known, and no ending
abbrev pub Reports : Line → ℕ → ℕ → List Slot → Type 0
Reports low begin t zs = known_at t (reading_of low begin) ≡ record { slots = zs; ended = None }

-- the reading goes on past the begin, and nothing is reported there
pub record Begun (low : Line) (begin : ℕ) (r : Read) : Type 0 where
  pub goes : begin ≤ r.until
  pub ends : begin < r.at
  pub reports : known_at begin r ≡ record { slots = []; ended = None }

-- which holds of each reading
abbrev pub BegunBy : Type 0
BegunBy = (low : Line) (begin : ℕ) (s : Result ℕ ℕ) → start_of low begin ≡ s → Begun low begin (read_start low begin s)

-- A round's line is low where a winner pulls, and only where somebody pulls.
abbrev pub RoundsAreContended : Type 0
RoundsAreContended = (seats : List Seat) (begin : ℕ) (pulses : List Stretch) (low : Line) → IsRoundLine seats begin pulses low → IsContended seats begin pulses low

-- While no ending is known, the line is low where a winner pulls that stays by all bits that are.
abbrev pub SenderLow : Type 0
SenderLow = (seats : List Seat) (begin : ℕ) (pulses : List Stretch) (low : Line) (t : ℕ) (zs : List Slot) → IsContended seats begin pulses low
    → Reports low begin t zs → (w : List ℕ) → In w (frames_of seats) → least_among (frames_of seats) w ≡ true → Stays (filter_map (λ s. s.bit) zs) (frame_bits w)
    → line_of (sender_stretches begin (frame_bits w)) t ≡ true → low t ≡ true

-- Where somebody pulls at once, the line is low at the begin.
abbrev pub LowAtBegin : Type 0
LowAtBegin = (seats : List Seat) (begin : ℕ) (pulses : List Stretch) (low : Line) → IsWave pulses → IsContended seats begin pulses low
    → Reports low begin begin [] → is_begun seats begin pulses ≡ true → low begin ≡ true
