-- Polls of logical address allocation (CEC 10.2.1): who polls an address that another device holds does not find it free.
-- A pulse can make a free address look held, and never a held one free.
use Rattle.std.specs.Prelude.{◌≡◌, ℕ, ◌%◌, ◌<◌, Bool, true, List, [], ◌∷◌, slice_get, slice_index, Some}
use Rattle.line_wave.specs.declared.Stretch.{Stretch}
use Rattle.line_frames.specs.Bits.{frame_bits}
use Rattle.line_frames.specs.declared.Ending.TheVariants.{Complete}
use Rattle.line_reading.specs.Reading.{reading_of, bits_of}
use Rattle.line_rounds.specs.declared.Seat.{Seat}
use Rattle.line_frames.specs.declared.Fate.TheVariants.{Unacked}
use Rattle.line_rounds.specs.declared.Outcome.{Outcome}
use Rattle.line_rounds.specs.Round.{is_held, fate_of, fate_in, IsRound}

-- A poll of an address below 15 that nobody acknowledged was read whole, each slot as it was sent, the acknowledge slot
-- as a 1 too: nobody held the line low in it. Of any line.
abbrev pub FreeIsRead : Type 0
FreeIsRead = (low : ℕ → Bool) (begin header : ℕ) → header % 16 < 15 → fate_of (reading_of low begin) (header ∷ []) ≡ Unacked
    → ((reading_of low begin).ending ≡ Complete) × (bits_of (reading_of low begin) ≡ frame_bits (header ∷ []))

-- So a plugged seat that holds the address of such a poll was itself still sending a frame to that address. Of any
-- pulses, sparse or not.
abbrev pub HoldersAreHeard : Type 0
HoldersAreHeard = (seats : List Seat) (begin : ℕ) (pulses : List Stretch) (o : Outcome) → IsRound seats begin pulses o
    → (i j header : ℕ) (poller holder : Seat) → slice_get seats i ≡ Some poller → poller.sends ≡ Some (header ∷ []) → fate_in o i ≡ Unacked
    → slice_get seats j ≡ Some holder → holder.plugged ≡ true → is_held holder.holds (header % 16) ≡ true
    → (frame : List ℕ) × ((holder.sends ≡ Some frame) × (slice_index frame 0 % 16 ≡ header % 16))
