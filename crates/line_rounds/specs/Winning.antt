-- Arbitration (CEC 9): what is read as a frame is a winner's frame.
use Rattle.std.specs.Prelude.{◌≡◌, ℕ, List, Some, All}
use Rattle.std.specs.List.{Any}
use Rattle.line_wave.specs.declared.Stretch.{Stretch}
use Rattle.line_wave.specs.Pulses.{AreSparse}
use Rattle.line_frames.specs.Blocks.{frame_in, AreBytes}
use Rattle.line_frames.specs.declared.Ending.TheVariants.{Complete}
use Rattle.line_rounds.specs.declared.Seat.{Seat}
use Rattle.line_rounds.specs.declared.Outcome.{Outcome}
use Rattle.line_rounds.specs.Round.{frames_of, winning_frames, IsRound}
use Rattle.line_rounds.specs.Contend.{AreFrames}

-- frames of bytes of eight bits
abbrev pub AreByteFrames : List Seat → Type 0
AreByteFrames seats = All AreBytes (frames_of seats)

-- A round that ends with all blocks of a frame (CEC 6) is read as the frame of a winner: of a sender whose bits are
-- least (CEC 9). A pulse can break a frame, and never turns it into another.
abbrev pub CompleteIsRead : Type 0
CompleteIsRead = (seats : List Seat) (begin : ℕ) (pulses : List Stretch) (o : Outcome) → AreFrames seats → AreByteFrames seats → AreSparse pulses
    → IsRound seats begin pulses o → o.reading.ending ≡ Complete → Any (λ w. frame_in o.reading ≡ Some w) (winning_frames seats)
