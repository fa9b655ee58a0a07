-- What makes a fall of a round's line. (own)
use Rattle.std.specs.Prelude.{◌≡◌, ℕ, ◌+◌, ◌*◌, ◌<◌, true, List, length, ◌⊎◌}
use Rattle.line_wave.specs.declared.Stretch.{Stretch}
use Rattle.line_wave.specs.Line.{Line, is_fall}
use Rattle.line_frames.specs.Bits.{frame_bits}
use Rattle.line_reading.specs.Reading.{known_at, reading_of}
use Rattle.line_reading.specs.Sending.{sender_pulls}
use Rattle.line_rounds.specs.declared.Seat.{Seat}
use Rattle.line_rounds.specs.Round.{IsRoundLine, frames_of}
use Rattle.line_rounds.specs.Falls.{IsPulseBegin}
use Rattle.line_rounds.specs.Elements.{In}

-- one of a sender's slots begins here
abbrev pub BeginsSlot : ℕ → ℕ → ℕ → Type 0
BeginsSlot begin t count = (k : ℕ) × (k < count) × (t ≡ begin + 4500 + 2400 * k)

-- who makes a fall: the senders at the start, one of them at a slot, or a pulse
abbrev pub FallBy : List (List ℕ) → ℕ → List Stretch → Line → ℕ → Type 0
FallBy fs begin pulses low t =
    (t ≡ begin) ⊎ (((f : List ℕ) × In f fs × (sender_pulls begin (known_at t (reading_of low begin)) t f ≡ true) × BeginsSlot begin t (length (frame_bits f))) ⊎ IsPulseBegin begin (reading_of low begin).until pulses t)

-- each fall of a round's line is made by one of them
abbrev pub RoundFallBy : Type 0
RoundFallBy = (seats : List Seat) (begin : ℕ) (pulses : List Stretch) (low : Line) (t : ℕ) → IsRoundLine seats begin pulses low → is_fall low t ≡ true → FallBy (frames_of seats) begin pulses low t
