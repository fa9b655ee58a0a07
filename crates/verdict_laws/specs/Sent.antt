-- Frames that are sent with the nominal times, one after another, and the line that they make (CEC 5.2, 6.1, 7.1, 9.1).
use Rattle.std.specs.Prelude.{◌≡◌, ℕ, ◌+◌, ◌-◌, ◌*◌, ◌==◌, ◌<◌, ◌≤◌, Bool, true, false, not, ◌||◌, List, [], ◌∷◌, ◌++◌, length}
use mathlib.Core.Bool.{beq}
use Rattle.line_wave.specs.declared.Stretch.{Stretch}
use Rattle.line_wave.specs.Sender.{sender_stretches}
use Rattle.line_reading.specs.Sending.{bit_read, destination}
use Rattle.audit_pieces.specs.Bounds.{apart_from}

-- ---- whole blocks

-- The ninth bit of a block, counted from 1, says that it is the last one (CEC 6.1).
abbrev pub is_last : List Bool → ℕ → Bool
is_last bits block = bit_read bits (10 * block - 1)

-- Its tenth bit says that it was taken: a 0 of a frame to one device, a 1 of a frame to all (CEC 6.1.2).
abbrev pub was_taken : List Bool → ℕ → Bool
was_taken bits block = beq (bit_read bits (10 * block)) (destination bits == 15)

-- Whole blocks, 16 at most (CEC 6.1). After each but the final one its initiator goes on: it is not the last of the frame, and was taken. After
-- the final one it stops: that is the last one, or was not taken (CEC 7.1).
pub record AreBlocks (bits : List Bool) : Type 0 where
  pub count : ℕ
  pub some : 0 < count
  pub few : count ≤ 16
  pub long : length bits ≡ 10 * count
  pub more : (block : ℕ) → 0 < block → block < count → is_last bits block ≡ false
  pub taken : (block : ℕ) → 0 < block → block < count → was_taken bits block ≡ true
  pub ends : (is_last bits count || not (was_taken bits count)) ≡ true

-- ---- one after another

-- the bits of a frame, from the begin of its start bit
pub record Sent : Type 0 where
  pub begin : ℕ
  pub bits : List Bool

-- the line is low where they pull it (CEC 5.2)
abbrev pub wave_of : List Sent → List Stretch
wave_of [] = []
wave_of (s ∷ ss) = sender_stretches s.begin s.bits ++ wave_of ss

-- where the final bit of a frame falls: a start bit lasts 4,500 and a bit 2,400 (CEC 5.2)
abbrev pub final_fall : Sent → ℕ
final_fall s = s.begin + 2100 + 2400 * length s.bits

-- The next frame begins 6,000 after that at least; the shortest signal free time is 7,200 (CEC 9.1).
abbrev pub IsBefore : Sent → List Sent → Type 0
IsBefore s [] = Unit {0}
IsBefore s (next ∷ ss) = final_fall s + apart_from ≤ next.begin

abbrev pub AreSent : List Sent → Type 0
AreSent [] = Unit {0}
AreSent (s ∷ ss) = AreBlocks s.bits × IsBefore s ss × AreSent ss
