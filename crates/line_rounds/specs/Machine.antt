-- What a wire goes by from microsecond to microsecond: who goes on sending, how long those who follow hold the line low,
-- and the wave so far. (own)
use Rattle.std.specs.Prelude.{ℕ, ◌+◌, ◌%◌, ◌==◌, ◌<◌, ◌≤◌, Bool, true, false, not, ◌&&◌, if◌then◌else◌, List, [], ◌∷◌, ◌++◌, length, Option, Some, None, is_none, All}
use Rattle.std.specs.List.{list_any}
use Rattle.line_wave.specs.declared.Stretch.{Stretch}
use Rattle.line_wave.specs.Line.{IsWave}
use Rattle.line_frames.specs.Bits.{frame_bits}
use Rattle.line_frames.specs.declared.Ending.{Ending}
use Rattle.line_frames.specs.declared.Ending.TheVariants.{Short}
use Rattle.line_reading.specs.Sending.{destination, out_by}
use Rattle.line_rounds.specs.declared.Seat.{Seat}
use Rattle.line_rounds.specs.Round.{ack_pull, is_held}

-- ---- who goes on, by the bits that were read

-- a seat is still sending after these bits, which did not end the reading
abbrev pub sends_after : List Bool → Option (List ℕ) → Bool
sends_after bits None = false
sends_after bits (Some f) = is_none (out_by bits false (frame_bits f))

-- a seat acknowledges in the slot after these bits (acknowledge bit, CEC 6.1)
abbrev pub acks_after : List Bool → Seat → Bool
acks_after bits seat = seat.plugged && (is_held seat.holds (destination bits) && not (sends_after bits seat.sends))

-- a seat answers a fall too early, which came after these bits, with a low drive (CEC 7.4)
abbrev pub breaks_after : List Bool → Seat → Bool
breaks_after bits seat = seat.plugged && not (sends_after bits seat.sends)

-- ---- how long the followers hold the line

abbrev pub is_short : Ending → Bool
is_short Short = true
is_short _ = false

-- from the fall of a slot, where these bits were read before it
abbrev pub acks_until : List Seat → List Bool → ℕ → ℕ
acks_until seats bits fall = if ((length bits + 1) % 10 == 0) && list_any (acks_after bits) seats then fall + ack_pull else 0

-- ---- what is sent

-- 1 to 16 blocks
abbrev pub IsSentWell : Option (List ℕ) → Type 0
IsSentWell None = Unit {0}
IsSentWell (Some f) = (0 < length f) × (length f ≤ 16)

abbrev pub AreSentWell : List Seat → Type 0
AreSentWell seats = All (λ s. IsSentWell s.sends) seats

-- ---- the wave so far: whole stretches, and the one that is low still

abbrev pub wave_after : List Stretch → Option ℕ → ℕ → Bool → List Stretch
wave_after wave since t true = wave
wave_after wave None t false = wave
wave_after wave (Some from) t false = wave ++ record { from = from; to = t } ∷ []

abbrev pub low_since : Option ℕ → ℕ → Bool → Option ℕ
low_since since t false = None
low_since None t true = Some t
low_since (Some from) t true = Some from

-- the stretch that is low still comes after the others
abbrev pub IsReady : List Stretch → Option ℕ → ℕ → Type 0
IsReady wave None t = Unit {0}
IsReady wave (Some from) t = IsWave (wave ++ record { from = from; to = t } ∷ [])
