-- How the drive of a seat is put together from what an outcome says (own): what a sender pulls until it is out, 1,500 of each
-- block that a follower acknowledges, and 3,600 of a follower after a fall too early. No public clause names these: that they
-- are the lines of the rule (Drives) is proved.
use Rattle.std.specs.Prelude.{ℕ, ◌+◌, ◌-◌, ◌*◌, Bool, true, false, not, nat_lt, nat_le, ◌&&◌, if◌then◌else◌, min, List, [], ◌∷◌, ◌++◌, length, slice_get, Option, Some, None}
use Rattle.std.specs.List.{flat_map, range_with_len}
use Rattle.line_wave.specs.declared.Stretch.{Stretch}
use Rattle.line_wave.specs.Line.{line_of}
use Rattle.line_wave.specs.Sender.{sender_stretches}
use Rattle.line_frames.specs.Bits.{frame_bits}
use Rattle.line_frames.specs.declared.Ending.{Ending}
use Rattle.line_frames.specs.declared.Ending.TheVariants.{Short}
use Rattle.line_reading.specs.Windows.{sample_at}
use Rattle.line_reading.specs.Sending.{destination}
use Rattle.line_rounds.specs.declared.Seat.{Seat}
use Rattle.line_rounds.specs.declared.Outcome.{Outcome}
use Rattle.line_rounds.specs.Round.{ack_pull, short_pull, is_held, is_not_before, out_in}

-- low from one instant up to another
abbrev pub stretch : ℕ → ℕ → Stretch
stretch from to = record { from = from; to = to }

-- ---- the slots of a round

abbrev pub fall_by : ℕ → Option Stretch → Option ℕ
fall_by at None = None
fall_by at (Some s) = if nat_lt s.from at then Some s.from else None

-- the fall of slot n, counted from 1: that of the line's n-th low stretch after the start bit's, where it comes before the
-- reading's end
abbrev pub slot_fall : Outcome → ℕ → Option ℕ
slot_fall o n = fall_by o.reading.at (slice_get o.wave n)

-- ---- who sends (CEC 5.2)

abbrev pub sample_by : Option ℕ → ℕ
sample_by None = 0
sample_by (Some fall) = fall + sample_at

-- the last microsecond in which a sender pulls that is never out: that of the reading's end where the line is low in it, or the
-- one before, since a sender makes no fall at an ending for want of a fall
abbrev pub last_at_end : Outcome → ℕ
last_at_end o = if line_of o.wave o.reading.at then o.reading.at else o.reading.at - 1

-- the last microsecond in which a sender pulls that is out at this slot: that slot's sample
abbrev pub last_pull : Outcome → Option ℕ → ℕ
last_pull o None = last_at_end o
last_pull o (Some slot) = sample_by (slot_fall o slot)

-- up to the end of a microsecond
abbrev pub cut_after : ℕ → List Stretch → List Stretch
cut_after last [] = []
cut_after last (s ∷ ss) = if nat_le s.from last then stretch s.from (min s.to (last + 1)) ∷ cut_after last ss else cut_after last ss

abbrev pub sent_stretches : ℕ → Outcome → Option ℕ → Option (List ℕ) → List Stretch
sent_stretches begin o out None = []
sent_stretches begin o out (Some f) = cut_after (last_pull o out) (sender_stretches begin (frame_bits f))

-- ---- who acknowledges (CEC 6.1): for 1,500 from the slot's fall on, which somebody else made

-- it sends in slot n
abbrev pub goes_to : Option (List ℕ) → Option ℕ → ℕ → Bool
goes_to None out n = false
goes_to (Some f) out n = is_not_before n out

-- it follows, the header was read, it goes to an address that the seat holds, and the seat does not send in slot n itself
abbrev pub acknowledges_in : Outcome → Seat → Option ℕ → ℕ → Bool
acknowledges_in o seat out n =
    seat.plugged && (nat_le 8 (length o.reading.bits.items) && (is_held seat.holds (destination o.reading.bits.items) && not (goes_to seat.sends out n)))

abbrev pub ack_by : Bool → Option ℕ → List Stretch
ack_by false fall = []
ack_by true None = []
ack_by true (Some fall) = stretch (fall + 1) (fall + ack_pull) ∷ []

-- the tenth slot of a block
abbrev pub ack_in : Outcome → Seat → Option ℕ → ℕ → List Stretch
ack_in o seat out block = ack_by (acknowledges_in o seat out (10 * block)) (slot_fall o (10 * block))

abbrev pub ack_stretches : Outcome → Seat → Option ℕ → List Stretch
ack_stretches o seat out = flat_map (ack_in o seat out) (range_with_len 1 16)

-- ---- low drives, of those who pull after a fall too early (CEC 7.4): 3,600 from it on, everyone who does not send

abbrev pub is_short : Ending → Bool
is_short Short = true
is_short _ = false

abbrev pub breaks_off : Outcome → Seat → Option ℕ → Bool
breaks_off o seat out = is_short o.reading.ending && (seat.plugged && not (goes_to seat.sends out (length o.reading.bits.items + 1)))

abbrev pub break_stretches : Outcome → Seat → Option ℕ → List Stretch
break_stretches o seat out = if breaks_off o seat out then stretch (o.reading.at + 1) (o.reading.at + short_pull) ∷ [] else []

-- ---- all of them

abbrev pub seat_stretches_by : ℕ → Outcome → Seat → Option ℕ → List Stretch
seat_stretches_by begin o seat out = sent_stretches begin o out seat.sends ++ (ack_stretches o seat out ++ break_stretches o seat out)

-- of the seat of this number
abbrev pub seat_stretches : ℕ → Outcome → ℕ → Seat → List Stretch
seat_stretches begin o number seat = seat_stretches_by begin o seat (out_in o.losers.items number)

abbrev pub drives_from : ℕ → Outcome → ℕ → List Seat → List (List Stretch)
drives_from begin o number [] = []
drives_from begin o number (seat ∷ seats) = seat_stretches begin o number seat ∷ drives_from begin o (number + 1) seats
