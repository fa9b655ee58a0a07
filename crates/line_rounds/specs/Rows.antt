-- Worked rounds, computed.
use Rattle.std.specs.Prelude.{◌≡◌, ℕ, ◌+◌, ◌*◌, List, [], ◌∷◌, ◌++◌, Bool, true, false, refl, Some, None, map}
use mathlib.Core.Bool.{beq}
use Rattle.std.specs.List.{list_all}
use Rattle.std.proofs.Common.{ap, ◌∙◌}
use Rattle.line_wave.specs.declared.Stretch.{Stretch}
use Rattle.line_wave.specs.Line.{line_of, was_low}
use Rattle.line_wave.specs.Sender.{sender_stretches}
use Rattle.line_frames.specs.Bits.{frame_bits}
use Rattle.line_frames.specs.declared.Ending.TheVariants.{Short, Complete}
use Rattle.line_reading.specs.Reading.{Read, Slot, reading_of, known_at, first_in, read_slots}
use Rattle.line_rounds.specs.declared.Seat.{Seat}
use Rattle.line_rounds.specs.Round.{is_pulled}

-- a television that holds 0, and a player that holds 4 and sends 4>0 image-view-on
abbrev pub two_seats : List Seat
two_seats =
    record { plugged = true; holds = Some 0 ∷ None ∷ []; sends = None }
    ∷ record { plugged = true; holds = Some 4 ∷ None ∷ []; sends = Some (64 ∷ 4 ∷ []) } ∷ []

abbrev pub one_pulse : List Stretch
one_pulse = record { from = 1006500; to = 1006600 } ∷ []

-- the line of that round
abbrev pub short_line : List Stretch
short_line = record { from = 1000000; to = 1003700 } ∷ record { from = 1004500; to = 1006000 } ∷ record { from = 1006500; to = 1010100 } ∷ []

abbrev short_reading : Read
short_reading = record { slots = record { fall = 1004500; bit = Some false } ∷ []; ending = Short; at = 1006500; until = 1006500 }

short_read : reading_of (line_of short_line) 1000000 ≡ short_reading
unfolding first_in read_slots
short_read = refl

-- it is what the rule says, at the pulse, after it, at the end of the television's pull and past it
agrees_by : Read → ℕ → Bool
agrees_by r t = beq (line_of short_line t) (is_pulled two_seats 1000000 one_pulse (was_low (line_of short_line) t) (known_at t r) t)

agree_by : Read → Bool
agree_by r = list_all (agrees_by r) (1000000 ∷ 1003699 ∷ 1003700 ∷ 1006499 ∷ 1006500 ∷ 1006501 ∷ 1006600 ∷ 1010099 ∷ 1010100 ∷ [])

agree : agree_by short_reading ≡ true
unfolding first_in agrees_by agree_by
agree = refl

short_row : agree_by (reading_of (line_of short_line) 1000000) ≡ true
short_row = ap agree_by short_read ∙ agree

-- a poll of 0 that the television acknowledges: its pull outlasts the sender's
abbrev pub polled_seats : List Seat
polled_seats =
    record { plugged = true; holds = Some 0 ∷ None ∷ []; sends = None }
    ∷ record { plugged = true; holds = None ∷ None ∷ []; sends = Some (0 ∷ []) } ∷ []

abbrev pub acked_line : List Stretch
acked_line = sender_stretches 12000 (frame_bits (0 ∷ [])) ++ record { from = 38100; to = 39600 } ∷ []

-- eight slots of 0, the end of message, and a 0 that acknowledges
abbrev acked_slot : ℕ → Bool → Slot
acked_slot number bit = record { fall = 16500 + 2400 * number; bit = Some bit }

abbrev pub acked_reading : Read
acked_reading = record {
  slots = map (λ number. acked_slot number false) (0 ∷ 1 ∷ 2 ∷ 3 ∷ 4 ∷ 5 ∷ 6 ∷ 7 ∷ []) ++ acked_slot 8 true ∷ acked_slot 9 false ∷ [];
  ending = Complete;
  at = 39150;
  until = 39150;
}

pub acked_read : reading_of (line_of acked_line) 12000 ≡ acked_reading
unfolding first_in read_slots
acked_read = refl

acks_by : Read → ℕ → Bool
acks_by r t = beq (line_of acked_line t) (is_pulled polled_seats 12000 [] (was_low (line_of acked_line) t) (known_at t r) t)

ack_by : Read → Bool
ack_by r = list_all (acks_by r) (38700 ∷ 39599 ∷ 39600 ∷ [])

acks : ack_by acked_reading ≡ true
unfolding first_in acks_by ack_by
acks = refl

acked_row : ack_by (reading_of (line_of acked_line) 12000) ≡ true
acked_row = ap ack_by acked_read ∙ acks

-- Why a pull in answer to a fall is counted from the microsecond after it: with no pulse at all, a
-- pull that began at 1,006,300 would make the very fall that it answers. In the same way an acknowledgement
-- that began at 37,900 would make the early fall of the tenth slot that it answers.
self_made : reading_of (line_of (record { from = 1000000; to = 1003700 } ∷ record { from = 1004500; to = 1006000 } ∷ record { from = 1006300; to = 1009900 } ∷ [])) 1000000
    ≡ record { slots = record { fall = 1004500; bit = Some false } ∷ []; ending = Short; at = 1006300; until = 1006300 }
unfolding first_in read_slots
self_made = refl
