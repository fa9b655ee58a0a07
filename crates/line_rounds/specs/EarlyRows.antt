-- How early a slot can fall, and a pulse that touches the rest; computed.
use Rattle.std.specs.Prelude.{◌≡◌, ℕ, ◌+◌, [], ◌∷◌, ◌++◌, Bool, true, false, refl, take}
use Rattle.line_wave.specs.Line.{line_of, was_low}
use Rattle.line_wave.specs.Sender.{sender_stretches}
use Rattle.line_frames.specs.Bits.{frame_bits}
use Rattle.std.proofs.Common.{ap, ◌∙◌}
use Rattle.line_reading.specs.Reading.{Read, reading_of, known_at, falls_of, first_in, read_slots}
use Rattle.line_rounds.specs.Round.{is_pulled}
use Rattle.line_rounds.specs.Rows.{polled_seats, acked_line, acked_reading, acked_read}

-- one pulse: slot 2 falls 350 early, slot 3 on time
early_row : take 3 (falls_of (reading_of (line_of (sender_stretches 1000000 (frame_bits (64 ∷ 4 ∷ [])) ++ record { from = 1006550; to = 1006950 } ∷ [])) 1000000))
    ≡ 1004500 ∷ 1006550 ∷ 1009300 ∷ []
unfolding first_in read_slots
early_row = refl

-- Pulses 2,050 apart: slot 3 falls 700 early. So the window needs pulses that are far apart.
close_row : take 3 (falls_of (reading_of (line_of (sender_stretches 1000000 (frame_bits (64 ∷ 4 ∷ [])) ++ record { from = 1006550; to = 1006950 } ∷ record { from = 1008600; to = 1008700 } ∷ [])) 1000000))
    ≡ 1004500 ∷ 1006550 ∷ 1008600 ∷ []
unfolding first_in read_slots
close_row = refl

-- a poll that is acknowledged until 39,600: a pulse that begins there belongs to its rest, one that begins later does not
touching : Read → ℕ → Bool
touching r t = is_pulled polled_seats 12000 (record { from = t; to = t + 100 } ∷ []) (was_low (line_of acked_line) t) (known_at t r) t

touches : (touching acked_reading 39600 ≡ true) × (touching acked_reading 39601 ≡ false)
unfolding first_in touching
touches = (refl, refl)

touch_row : (touching (reading_of (line_of acked_line) 12000) 39600 ≡ true) × (touching (reading_of (line_of acked_line) 12000) 39601 ≡ false)
touch_row = (ap (λ (r : Read). touching r 39600) acked_read ∙ touches.0, ap (λ (r : Read). touching r 39601) acked_read ∙ touches.1)
