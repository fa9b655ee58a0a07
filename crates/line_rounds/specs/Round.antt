-- A round: who sends, what the line carries, how it is read, and what becomes of each sender: arbitration (CEC 9), the
-- acknowledge bit (CEC 6.1) and the low drive of line error handling (CEC 7.4), on one line.
use Rattle.std.specs.Prelude.{◌≡◌, ℕ, ◌+◌, ◌%◌, ◌==◌, Bool, true, false, not, nat_lt, nat_le, ◌&&◌, ◌||◌, if◌then◌else◌, max, List, [], ◌∷◌, ◌++◌, length, slice_get, filter, fold, Option, Some, None}
use Rattle.std.specs.List.{list_any, filter_map, enumerate_from}
use mathlib.Core.Bool.{beq}
use Rattle.line_wave.specs.declared.Stretch.{Stretch}
use Rattle.line_wave.specs.Line.{Line, line_of, covers, was_low}
use Rattle.line_wave.specs.Sender.{low_of_0}
use Rattle.line_frames.specs.Bits.{frame_bits, least_among}
use Rattle.line_frames.specs.declared.Ending.{Ending}
use Rattle.line_frames.specs.declared.Ending.TheVariants.{Complete, Short}
use Rattle.line_reading.specs.Reading.{Read, End, Known, known_at, reading_of, bits_of}
use Rattle.line_reading.specs.Sending.{bit_read, destination, known_bits, out_slot, sender_pulls}
use Rattle.line_rounds.specs.declared.Seat.{Seat}
use Rattle.line_rounds.specs.declared.Loser.{Loser}
use Rattle.line_rounds.specs.declared.Outcome.{Outcome}
use Rattle.line_frames.specs.declared.Fate.{Fate}
use Rattle.line_frames.specs.declared.Fate.TheVariants.{Delivered, Unacked, Lost, Broken}

-- ---- how long those who follow pull, in microseconds

-- the acknowledge bit (CEC 6.1), as long as the low period of a 0 (CEC 5.2.2)
abbrev pub ack_pull : ℕ
ack_pull = low_of_0

-- the low drive (CEC 7.4, line error handling: 1.4 to 1.6 nominal bit periods); that it is one and a half bit periods is own
abbrev pub short_pull : ℕ
short_pull = 3600

-- ---- how long a sender goes on: to the slot at which it stops (`out_slot`), or to the ending

abbrev pub is_not_before : ℕ → Option ℕ → Bool
is_not_before n None = true
is_not_before n (Some out) = nat_le n out

-- the seat is sending when slot n falls
abbrev pub sends_in : Known → Option (List ℕ) → ℕ → Bool
sends_in k None n = false
sends_in k (Some f) n = is_not_before n (out_slot k (frame_bits f))

-- ---- who pulls the line low at t, going by what is known before t

abbrev pub frames_of : List Seat → List (List ℕ)
frames_of seats = filter_map (λ s. s.sends) seats

abbrev pub winning_frames : List Seat → List (List ℕ)
winning_frames seats = filter (least_among (frames_of seats)) (frames_of seats)

abbrev pub holds_address : Option ℕ → ℕ → Bool
holds_address None address = false
holds_address (Some held) address = (held == address) && nat_lt held 15

-- one of a seat's units holds it: a device has one logical address for each of its units (CEC 10.2)
abbrev pub is_held : List (Option ℕ) → ℕ → Bool
is_held units address = list_any (λ held. holds_address held address) units

-- the seat acknowledges in slot n: a follower that holds the destination of a directly addressed frame (CEC 6.1)
abbrev pub acknowledges : Known → ℕ → Seat → Bool
acknowledges k n s = s.plugged && (is_held s.holds (destination (known_bits k)) && not (sends_in k s.sends n))

-- the acknowledge bit (CEC 6.1): a follower pulls in an acknowledge slot from its fall on, which somebody else made
abbrev pub is_acknowledged : List Seat → Known → ℕ → Bool
is_acknowledged seats k t =
    list_any (λ slot. (slot.0 % 10 == 0) && (nat_lt t (slot.1.fall + ack_pull) && list_any (acknowledges k slot.0) seats)) (enumerate_from 1 k.slots)

-- the low drive (CEC 7.4): a pull from a fall too early on, by everyone who does not send. Which falls are too early is own
abbrev pub is_broken : List Seat → Known → ℕ → Option End → Bool
is_broken seats k t None = false
is_broken seats k t (Some end) =
    is_short end.ending && (nat_lt t (end.at + short_pull) && list_any (λ s. s.plugged && not (sends_in k s.sends (length (known_bits k) + 1))) seats)
  where
    is_short : Ending → Bool
    is_short Short = true
    is_short _ = false

-- the reading is not known to have ended before t
abbrev pub is_within : Option End → ℕ → Bool
is_within None t = true
is_within (Some end) t = nat_le t end.until

-- a pulse that begins in the round, until the ending; or later, where the line is low already: such
-- a pulse overlaps or touches the last low stretch, and makes no fall
abbrev pub pulse_pulls : ℕ → Option End → Bool → ℕ → Stretch → Bool
pulse_pulls begin ended was t p = covers p t && (nat_le begin p.from && (is_within ended p.from || was))

-- whether somebody pulls at t where these frames are sent, `was` telling the line just before t: a pulse, a sender that is
-- not out and makes no fall at an ending for want of a fall (past the reading's last microsecond it pulls only where the
-- line is low already), an acknowledger, or the low drive
abbrev pub pulled_by : List (List ℕ) → List Seat → ℕ → List Stretch → Bool → Known → ℕ → Bool
pulled_by frames seats begin pulses was k t =
    list_any (pulse_pulls begin k.ended was t) pulses
    || ((list_any (sender_pulls begin k t) frames && (is_within k.ended t || was))
    || (is_acknowledged seats k t || is_broken seats k t k.ended))

-- everybody who sends pulls, each until it is out
abbrev pub is_pulled : List Seat → ℕ → List Stretch → Bool → Known → ℕ → Bool
is_pulled seats begin pulses was k t = pulled_by (frames_of seats) seats begin pulses was k t

-- The line of a round is low where somebody pulls, and each goes by what the line itself was before.
abbrev pub IsRoundLine : List Seat → ℕ → List Stretch → Line → Type 0
IsRoundLine seats begin pulses low = (t : ℕ) → low t ≡ pulled_by (frames_of seats) seats begin pulses (was_low low t) (known_at t (reading_of low begin)) t

-- there is one such line
abbrev pub OneLine : Type 0
OneLine = (seats : List Seat) (begin : ℕ) (pulses : List Stretch) (low other : Line)
    → IsRoundLine seats begin pulses low → IsRoundLine seats begin pulses other → (t : ℕ) → low t ≡ other t

-- all that is known of a reading
abbrev pub all_known : Read → Known
all_known r = known_at (r.until + 1) r

-- ---- what becomes of the senders

abbrev pub survivors_from : Read → ℕ → List Seat → List ℕ
survivors_from r n [] = []
survivors_from r n (s ∷ seats) =
    if sends_in (all_known r) s.sends (length (bits_of r) + 1) then n ∷ survivors_from r (n + 1) seats else survivors_from r (n + 1) seats

abbrev pub lost_at : ℕ → Option ℕ → List Loser
lost_at seat None = []
lost_at seat (Some slot) = record { seat = seat; slot = slot } ∷ []

abbrev pub out_of : Read → Option (List ℕ) → Option ℕ
out_of r None = None
out_of r (Some f) = out_slot (all_known r) (frame_bits f)

abbrev pub losers_from : Read → ℕ → List Seat → List Loser
losers_from r n [] = []
losers_from r n (s ∷ seats) = lost_at n (out_of r s.sends) ++ losers_from r (n + 1) seats

-- ---- rest, close and fates

-- the end of the last of these low stretches that begins by `until`
abbrev pub rest_of : ℕ → List Stretch → ℕ
rest_of until ss = fold (λ rest s. if nat_le s.from until then s.to else rest) 0 ss

abbrev pub close_of : Read → ℕ → ℕ
close_of r rest = max r.at rest

-- the last acknowledge bit says that the frame was taken: 0 for a directly addressed frame, 1 for a broadcast (CEC 6.1)
abbrev pub is_taken_up : List Bool → Bool
is_taken_up bits = beq (bit_read bits (length bits)) (destination bits == 15)

-- the fate of a sender that was still sending
abbrev pub fate_at_end : Ending → List Bool → Fate
fate_at_end Complete bits = if is_taken_up bits then Delivered else Unacked
fate_at_end _ bits = Broken

-- the fate of a sender, by the slot at which it was out: arbitration is decided in the first four, the initiator's address
-- (CEC 9)
abbrev pub fate_by : Ending → List Bool → Option ℕ → Fate
fate_by ending bits None = fate_at_end ending bits
fate_by ending bits (Some slot) = if slot % 10 == 0 then Unacked else if nat_le slot 4 then Lost else Broken

abbrev pub fate_of : Read → List ℕ → Fate
fate_of r frame = fate_by r.ending (bits_of r) (out_slot (all_known r) (frame_bits frame))

-- where a seat was out, by an outcome's losers
abbrev pub out_in : List Loser → ℕ → Option ℕ
out_in [] seat = None
out_in (l ∷ losers) seat = if l.seat == seat then Some l.slot else out_in losers seat

-- the fate of a seat that sent, and the close, by an outcome
abbrev pub fate_in : Outcome → ℕ → Fate
fate_in o seat = fate_by o.reading.ending o.reading.bits.items (out_in o.losers.items seat)

abbrev pub close_in : Outcome → ℕ
close_in o = max o.reading.at o.rest

-- a round's outcome
pub record IsRound (seats : List Seat) (begin : ℕ) (pulses : List Stretch) (o : Outcome) : Type 0 where
  pub line : IsRoundLine seats begin pulses (line_of o.wave)
  pub starts : o.reading.begin ≡ begin
  pub ends : o.reading.at ≡ (reading_of (line_of o.wave) begin).at
  pub ending : o.reading.ending ≡ (reading_of (line_of o.wave) begin).ending
  pub bits : o.reading.bits.items ≡ bits_of (reading_of (line_of o.wave) begin)
  pub survivors : o.survivors.items ≡ survivors_from (reading_of (line_of o.wave) begin) 0 seats
  pub losers : o.losers.items ≡ losers_from (reading_of (line_of o.wave) begin) 0 seats
  pub rest : o.rest ≡ rest_of (reading_of (line_of o.wave) begin).until o.wave

-- What an outcome says of each sender and of its close is what becomes of them in the round.
pub record FatesReported : Type 0 where
  pub fates : (seats : List Seat) (begin : ℕ) (pulses : List Stretch) (o : Outcome) → IsRound seats begin pulses o
      → (k : ℕ) (s : Seat) (f : List ℕ) → slice_get seats k ≡ Some s → s.sends ≡ Some f → fate_in o k ≡ fate_of (reading_of (line_of o.wave) begin) f
  pub close : (seats : List Seat) (begin : ℕ) (pulses : List Stretch) (o : Outcome) → IsRound seats begin pulses o
      → close_in o ≡ close_of (reading_of (line_of o.wave) begin) (rest_of (reading_of (line_of o.wave) begin).until o.wave)
