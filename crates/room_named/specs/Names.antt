-- What two wires of text have in a round (own): `frame` what is read, from the round's begin to its close, and `bit` which bit of it
-- is on the line, from a fall to the next.
use Rattle.std.specs.Prelude.{ℕ, ◌+◌, ◌-◌, ◌==◌, ◌%◌, max, Bool, if◌then◌else◌, List, [], ◌∷◌, ◌++◌, codes}
use Rattle.line_wave.specs.declared.Stretch.{Stretch}
use Rattle.line_frames.specs.declared.Ending.{Ending}
use Rattle.line_frames.specs.declared.Ending.TheVariants.{Complete, Short, Silent, BadStart, Long, Open}
use Rattle.line_frames.specs.declared.Reading.{Reading}
use Rattle.message_text.specs.ReadingText.{bit_digit, reported_text, verdict_text}
use Rattle.capture_wires.specs.Noted.{Noted, noted_text}

-- their identifiers: those of the other wires are `!` and letters
abbrev pub frame_id : ℕ
frame_id = 34

abbrev pub bit_id : ℕ
bit_id = 37

-- the definitions of a dump with these wires, below the line's
abbrev pub named_opening : List ℕ
named_opening =
    codes "$version hdminet $end\n$timescale 1 us $end\n$scope module hdmi $end\n$var wire 1 ! CEC $end\n$var string 1 \" frame $end\n$var string 1 % bit $end\n$scope module devices $end\n"

-- and their first values: nothing yet
abbrev pub named_values : List ℕ
named_values = codes "s \"\ns %\n"

-- ---- what is read: what the trace has after the times, without the word `complete` and without those who sent

abbrev pub lead_text : Ending → List ℕ
lead_text Complete = []
lead_text Short = codes "short "
lead_text Silent = codes "silent "
lead_text BadStart = codes "bad-start "
lead_text Long = codes "long "
lead_text Open = codes "open "

abbrev pub said_text : Reading → List ℕ
said_text r = lead_text r.ending ++ (reported_text r ++ verdict_text r)

-- ---- bits: of the ten of a block eight are data, then come the end-of-message bit and the acknowledge bit (CEC 6.1)

abbrev pub place_text : ℕ → List ℕ
place_text place = if place == 8 then codes "EOM=" else if place == 9 then codes "ACK=" else []

abbrev pub bit_text : ℕ → Bool → List ℕ
bit_text number bit = place_text (number % 10) ++ bit_digit bit ∷ []

abbrev pub note : ℕ → ℕ → List ℕ → Noted
note at id text = record { at = at; id = id; text = text }

-- the bits from this number on, each from its fall on
abbrev pub bit_notes : ℕ → List Stretch → List Bool → List Noted
bit_notes number [] bits = []
bit_notes number (fall ∷ falls) [] = []
bit_notes number (fall ∷ falls) (bit ∷ bits) = note fall.from bit_id (bit_text number bit) ∷ bit_notes (number + 1) falls bits

-- the start bit, and the bits after it
abbrev pub line_notes : List Stretch → List Bool → List Noted
line_notes [] bits = []
line_notes (fall ∷ falls) bits = note fall.from bit_id (codes "start") ∷ bit_notes 0 falls bits

-- both wires in a round
abbrev pub round_notes : List Stretch → Reading → List Noted
round_notes wave r =
    note r.begin frame_id (said_text r) ∷ (line_notes wave r.bits.items ++ (note r.at frame_id [] ∷ note r.at bit_id [] ∷ []))

-- the wires of a round with their names, from its begin up to where the line is high for good and the round is over
abbrev pub named_round : List Stretch → List (List Stretch) → Reading → ℕ → ℕ → List ℕ
named_round wave drives r begin rest = noted_text (wave ∷ drives) (round_notes wave r) begin (max rest r.at + 1 - begin)
