-- Arbitration on the line (CEC 9): everybody who sends pulls until he is out, and so, where pulses are sparse, only where a
-- winner pulls.
use Rattle.std.specs.Prelude.{◌≡◌, ℕ, ◌+◌, ◌*◌, ◌-◌, ◌%◌, ◌==◌, ◌<◌, ◌≤◌, Bool, true, false, not, ◌||◌, if◌then◌else◌, List, ◌++◌, length, slice_index_or, slice_get, filter, map, All, Some, None}
use Rattle.std.specs.List.{list_any, Any}
use Rattle.line_frames.specs.declared.Ending.TheVariants.{Complete}
use mathlib.Core.Bool.{beq}
use Rattle.line_wave.specs.declared.Stretch.{Stretch}
use Rattle.line_wave.specs.Line.{Line, covers, was_low}
use Rattle.line_wave.specs.Pulses.{AreSparse}
use Rattle.line_wave.specs.Sender.{first_slot, slot_width}
use Rattle.line_frames.specs.Bits.{frame_bits}
use Rattle.line_reading.specs.Reading.{Slot, Known, known_at, reading_of, bits_of}
use Rattle.line_rounds.specs.declared.Seat.{Seat}
use Rattle.line_reading.specs.Sending.{bit_read, destination, out_slot, goes_on, sender_pulls}
use Rattle.line_rounds.specs.Round.{ack_pull, acknowledges, all_known, pulse_pulls, is_acknowledged, is_broken, pulled_by, frames_of, winning_frames, IsRoundLine}

-- The same where a sender pulls through the ending's own instant, whatever the line was just before.
abbrev pub pulled_through : List (List ℕ) → List Seat → ℕ → List Stretch → Bool → Known → ℕ → Bool
pulled_through frames seats begin pulses was k t =
    list_any (pulse_pulls begin k.ended was t) pulses
    || (list_any (sender_pulls begin k t) frames
    || (is_acknowledged seats k t || is_broken seats k t k.ended))

-- the line on which of those who send the winners alone pull, each through the ending's instant
abbrev pub IsWinnersLine : List Seat → ℕ → List Stretch → Line → Type 0
IsWinnersLine seats begin pulses low = (t : ℕ) → low t ≡ pulled_through (winning_frames seats) seats begin pulses (was_low low t) (known_at t (reading_of low begin)) t

-- A line that is low where a winner pulls, and only where some sender, winner or not, pulls that is
-- not out (or a pulse, an acknowledgement, or a pull after Short).
pub record IsContended (seats : List Seat) (begin : ℕ) (pulses : List Stretch) (low : Line) : Type 0 where
  pub kept : (t : ℕ) → pulled_by (winning_frames seats) seats begin pulses (was_low low t) (known_at t (reading_of low begin)) t ≡ true → low t ≡ true
  pub made : (t : ℕ) → low t ≡ true → pulled_through (frames_of seats) seats begin pulses (was_low low t) (known_at t (reading_of low begin)) t ≡ true

-- a frame has a block at least
abbrev pub AreFrames : List Seat → Type 0
AreFrames seats = All (λ f. 0 < length f) (frames_of seats)

-- Losers inside winners: where a sender that is not out pulls, a winner that is not out pulls.
abbrev pub LosersInside : Type 0
LosersInside = (seats : List Seat) (begin : ℕ) (pulses : List Stretch) (low : Line) → AreFrames seats → AreSparse pulses → IsContended seats begin pulses low
    → (t : ℕ) → list_any (sender_pulls begin (known_at t (reading_of low begin)) t) (frames_of seats) ≡ true
    → list_any (sender_pulls begin (known_at t (reading_of low begin)) t) (winning_frames seats) ≡ true

-- So where pulses are sparse the round's line is the line of the winners alone.
abbrev pub SameLine : Type 0
SameLine = (seats : List Seat) (begin : ℕ) (pulses : List Stretch) (low : Line) → AreFrames seats → AreSparse pulses
    → (IsRoundLine seats begin pulses low → IsWinnersLine seats begin pulses low) × (IsWinnersLine seats begin pulses low → IsRoundLine seats begin pulses low)

-- ---- the slots of a winner

-- a sender of these bits stops at slot n, read so, where it does not end the reading
abbrev pub leaves : List Bool → List Bool → ℕ → Bool
leaves bits sent n =
    if n % 10 == 0 then not (beq (bit_read bits n) (destination bits == 15)) else not (beq (bit_read bits n) (slice_index_or sent (n - 1) false))

-- none of these slots does
abbrev pub Stays : List Bool → List Bool → Type 0
Stays bits sent = (n : ℕ) → 1 ≤ n → n ≤ length bits → leaves bits sent n ≡ false

-- ---- the line of a round

-- each round has a line
abbrev pub HasLine : Type 0
HasLine = (seats : List Seat) (begin : ℕ) (pulses : List Stretch) → (low : ℕ → Bool) × IsRoundLine seats begin pulses low

-- pulses that begin at u or later change nothing before u
abbrev pub LaterPulses : Type 0
LaterPulses = (seats : List Seat) (begin : ℕ) (pulses later : List Stretch) (u : ℕ) (low other : Line) → All (λ p. u ≤ p.from) later
    → IsRoundLine seats begin pulses low → IsRoundLine seats begin (pulses ++ later) other → (t : ℕ) → t < u → low t ≡ other t

-- before u these pulses are alike: at each instant those that last over it began at the same instants
abbrev pub AlikeBelow : ℕ → List Stretch → List Stretch → Type 0
AlikeBelow u ps qs = (t : ℕ) → t < u → map (λ p. p.from) (filter (λ p. covers p t) ps) ≡ map (λ p. p.from) (filter (λ p. covers p t) qs)

-- then the lines are alike before u
abbrev pub AlikePulses : Type 0
AlikePulses = (seats : List Seat) (begin u : ℕ) (ps qs : List Stretch) (low other : Line) → AlikeBelow u ps qs
    → IsRoundLine seats begin ps low → IsRoundLine seats begin qs other → (t : ℕ) → t < u → low t ≡ other t

-- The window: slot by slot of the reading, from 0, a winner that is still sending when the slot falls has
-- that slot in its frame; the read fall is not after its own, and at most 350 before it.
abbrev pub InWindow : ℕ → ℕ → Slot → Type 0
InWindow begin k s = (s.fall ≤ begin + first_slot + slot_width * k) × (begin + first_slot + slot_width * k ≤ s.fall + 350)

abbrev pub WinnersWindow : Type 0
WinnersWindow = (seats : List Seat) (begin : ℕ) (pulses : List Stretch) (low : Line) → AreFrames seats → AreSparse pulses → IsContended seats begin pulses low
    → All (λ w. (k : ℕ) (s : Slot) → slice_get (reading_of low begin).slots k ≡ Some s → out_slot (known_at s.fall (reading_of low begin)) (frame_bits w) ≡ None
    → (k < length (frame_bits w)) × InWindow begin k s) (winning_frames seats)

-- ---- what a machine that goes from instant to instant has to keep

-- below t this line is low where some sender that is not out, a follower or one of these pulses pulls
abbrev pub IsPulledBelow : List Seat → ℕ → List Stretch → ℕ → Line → Type 0
IsPulledBelow seats begin pulses t low =
    (u : ℕ) → u < t → low u ≡ pulled_by (frames_of seats) seats begin pulses (was_low low u) (known_at u (reading_of low begin)) u

-- Such a line is below t the round's, whatever pulses follow.
abbrev pub RoundBelow : Type 0
RoundBelow = (seats : List Seat) (begin : ℕ) (pulses later : List Stretch) (t : ℕ) (line low : Line) → All (λ p. t ≤ p.from) later
    → IsPulledBelow seats begin pulses t line → IsRoundLine seats begin (pulses ++ later) low → (u : ℕ) → u < t → line u ≡ low u

-- A winner is out no sooner than any other sender: while the reading goes on and one sender is not out, no winner is.
abbrev pub WinnersLast : Type 0
WinnersLast = (seats : List Seat) (begin : ℕ) (pulses : List Stretch) (low : Line) → AreFrames seats → AreSparse pulses → IsContended seats begin pulses low
    → (t : ℕ) → goes_on (known_at t (reading_of low begin)).ended t ≡ true
    → All (λ c. out_slot (known_at t (reading_of low begin)) (frame_bits c) ≡ None → All (λ w. out_slot (known_at t (reading_of low begin)) (frame_bits w) ≡ None) (winning_frames seats)) (frames_of seats)

-- ---- what a complete reading is

-- these bits are those that a sender sent, acknowledge slots left out
pub record HasBits (bits sent : List Bool) : Type 0 where
  pub long : length bits ≡ length sent
  pub same : (n : ℕ) → 1 ≤ n → n ≤ length bits → (n % 10 == 0) ≡ false → bit_read bits n ≡ slice_index_or sent (n - 1) false

-- Arbitration (CEC 9): a complete reading is a winner's frame. A pulse can break a frame, and never turns it into another.
abbrev pub CompleteIsWinners : Type 0
CompleteIsWinners = (seats : List Seat) (begin : ℕ) (pulses : List Stretch) (low : Line) → AreFrames seats → AreSparse pulses → IsRoundLine seats begin pulses low
    → (reading_of low begin).ending ≡ Complete → Any (λ w. HasBits (bits_of (reading_of low begin)) (frame_bits w)) (winning_frames seats)

-- Of any line, whoever pulls it: a complete reading has the bits of each sender that is still sending at its end, acknowledge
-- slots left out.
abbrev pub CompleteIsSurvivors : Type 0
CompleteIsSurvivors = (low : ℕ → Bool) (begin : ℕ) (f : List ℕ) → 0 < length f → (reading_of low begin).ending ≡ Complete
    → out_slot (all_known (reading_of low begin)) (frame_bits f) ≡ None → HasBits (bits_of (reading_of low begin)) (frame_bits f)

-- Where an acknowledger pulls, the acknowledge bit is read 0 (CEC 6.1). Slots are counted from 0.
abbrev pub AcknowledgedIsZero : Type 0
AcknowledgedIsZero = (seats : List Seat) (begin : ℕ) (pulses : List Stretch) (low : Line) → IsRoundLine seats begin pulses low
    → (k : ℕ) (s : Slot) (b : Bool) → slice_get (reading_of low begin).slots k ≡ Some s → s.bit ≡ Some b → ((k + 1) % 10 == 0) ≡ true
    → list_any (acknowledges (known_at (s.fall + 1) (reading_of low begin)) (k + 1)) seats ≡ true → b ≡ false

-- Who acknowledges is decided at the slot's fall, and holds as long as he pulls. Of any line.
abbrev pub AcknowledgersHold : Type 0
AcknowledgersHold = (low : ℕ → Bool) (begin k : ℕ) (s : Slot) → slice_get (reading_of low begin).slots k ≡ Some s → ((k + 1) % 10 == 0) ≡ true
    → (t : ℕ) → s.fall < t → t < s.fall + ack_pull → (seat : Seat) → acknowledges (known_at t (reading_of low begin)) (k + 1) seat ≡ acknowledges (known_at (s.fall + 1) (reading_of low begin)) (k + 1) seat
