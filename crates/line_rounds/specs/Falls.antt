-- Where a round's line falls, and how often at most: so many stretches its wave has.
use Rattle.std.specs.Prelude.{◌≡◌, ℕ, ◌+◌, ◌*◌, ◌<◌, ◌≤◌, Bool, true, List, [], ◌∷◌, length, All, ◌⊎◌}
use Rattle.std.specs.List.{Any}
use Rattle.line_wave.specs.declared.Stretch.{Stretch}
use Rattle.line_wave.specs.Line.{line_of, is_fall, IsWave}
use Rattle.line_wave.specs.Sender.{first_slot, slot_width}
use Rattle.line_reading.specs.Reading.{reading_of}
use Rattle.line_rounds.specs.declared.Seat.{Seat}
use Rattle.line_rounds.specs.Round.{frames_of, IsRoundLine}
use Rattle.line_rounds.specs.Contend.{IsPulledBelow}
use Rattle.line_wave.specs.Bounds.{most_slots}

-- a frame has at most 16 blocks (CEC 6, frame description)
abbrev pub AreShortFrames : List Seat → Type 0
AreShortFrames seats = All (λ f. length f ≤ 16) (frames_of seats)

-- one of a sender's at most 160 slots begins at t (CEC 5.2, bit timing)
abbrev pub IsSlotBegin : ℕ → ℕ → Type 0
IsSlotBegin begin t = (k : ℕ) × (k < most_slots) × (t ≡ begin + first_slot + slot_width * k)

-- one of these pulses begins at t, while the reading goes on (own)
abbrev pub IsPulseBegin : ℕ → ℕ → List Stretch → ℕ → Type 0
IsPulseBegin begin until pulses t = Any (λ p. p.from ≡ t) pulses × (begin ≤ t) × (t ≤ until)

-- a sender's start, a sender's slot or a pulse begins at t
abbrev pub IsPullBegin : ℕ → ℕ → List Stretch → ℕ → Type 0
IsPullBegin begin until pulses t = (t ≡ begin) ⊎ (IsSlotBegin begin t ⊎ IsPulseBegin begin until pulses t)

-- Acknowledgers and those who pull after a fall too early make no fall: a line that keeps the round's
-- rule below t falls below t only where a sender's stretch or a pulse begins.
abbrev pub EachFallBegins : Type 0
EachFallBegins = (seats : List Seat) (begin : ℕ) (pulses : List Stretch) (t : ℕ) (low : ℕ → Bool) → AreShortFrames seats → IsPulledBelow seats begin pulses t low
    → (u : ℕ) → u < t → is_fall low u ≡ true → IsPullBegin begin (reading_of low begin).until pulses u

-- each of these is more than the one before; the first is `from` or more
abbrev pub AreRisingFrom : ℕ → List ℕ → Type 0
AreRisingFrom from [] = Unit {0}
AreRisingFrom from (t ∷ ts) = (from ≤ t) × AreRisingFrom (t + 1) ts

-- Any line, whoever pulls it, falls at most 162 times from a reading's begin to its last microsecond: at the begin, at 160
-- slots, and once more where that breaks the reading.
abbrev pub FallsAreRead : Type 0
FallsAreRead = (low : ℕ → Bool) (begin : ℕ) (falls : List ℕ) → AreRisingFrom begin falls → All (λ u. (u ≤ (reading_of low begin).until) × (is_fall low u ≡ true)) falls → length falls ≤ 162

-- So a line that keeps the round's rule below t falls at most so often below t, whatever pulls there are.
abbrev pub FewFalls : Type 0
FewFalls = (seats : List Seat) (begin : ℕ) (pulses : List Stretch) (t : ℕ) (low : ℕ → Bool) → IsPulledBelow seats begin pulses t low
    → (falls : List ℕ) → AreRisingFrom 0 falls → All (λ u. (u < t) × (is_fall low u ≡ true)) falls → length falls ≤ 162

-- A wave that keeps the rule below t, where all its stretches begin, has at most so many stretches.
abbrev pub WaveFits : Type 0
WaveFits = (seats : List Seat) (begin : ℕ) (pulses : List Stretch) (t : ℕ) (ss : List Stretch) → IsPulledBelow seats begin pulses t (line_of ss)
    → IsWave ss → All (λ s. s.from < t) ss → length ss ≤ 162

-- And so has the wave of a round.
abbrev pub RoundFits : Type 0
RoundFits = (seats : List Seat) (begin : ℕ) (pulses ss : List Stretch) → IsRoundLine seats begin pulses (line_of ss) → IsWave ss → length ss ≤ 162
