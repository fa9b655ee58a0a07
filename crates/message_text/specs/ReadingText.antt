-- The text of a reading (the profile's own text): its fall and its ending, how it ended, and what it told.
use Rattle.std.specs.Prelude.{ℕ, ◌==◌, ◌%◌, ◌-◌, Bool, true, false, List, [], ◌∷◌, ◌++◌, map, length, slice_index, slice_index_or, Option, Some, None, codes}
use Rattle.std.specs.Fmt.{decimal}
use Rattle.std.specs.List.{concat}
use Rattle.line_frames.specs.declared.Ending.{Ending}
use Rattle.line_frames.specs.declared.Ending.TheVariants.{Complete, Short, Silent, BadStart, Long, Open}
use Rattle.line_frames.specs.declared.Reading.{Reading}
use Rattle.line_frames.specs.Blocks.{frame_in}
use Rattle.message_text.specs.FrameText.{frame_text}

abbrev pub bit_digit : Bool → ℕ
bit_digit true = 49
bit_digit false = 48

abbrev pub bits_text : List Bool → List ℕ
bits_text [] = codes "-"
bits_text (b ∷ bits) = map bit_digit (b ∷ bits)

abbrev pub ending_text : Ending → List ℕ
ending_text Complete = codes " complete "
ending_text Short = codes " short "
ending_text Silent = codes " silent "
ending_text BadStart = codes " bad-start "
ending_text Long = codes " long "
ending_text Open = codes " open "

abbrev pub is_complete : Ending → Bool
is_complete Complete = true
is_complete _ = false

-- the text of the frame of a complete reading
abbrev pub reported_frame : Option (List ℕ) → List ℕ
reported_frame None = []
reported_frame (Some frame) = frame_text frame

-- the last acknowledge slot: 0 takes a direct frame, and refuses a broadcast (CEC 6, acknowledgement)
abbrev pub verdict_by : Bool → Bool → List ℕ
verdict_by true true = codes " ok"
verdict_by true false = codes " refused"
verdict_by false true = codes " nack"
verdict_by false false = codes " ack"

abbrev pub is_broadcast : Option (List ℕ) → Bool
is_broadcast None = false
is_broadcast (Some frame) = slice_index frame 0 % 16 == 15

abbrev pub last_bit : List Bool → Bool
last_bit bits = slice_index_or bits (length bits - 1) false

-- a complete reading reports its frame, another one its bits
abbrev pub reported_by : Bool → Reading → List ℕ
reported_by true r = reported_frame (frame_in r)
reported_by false r = bits_text r.bits.items

abbrev pub verdict_in : Bool → Reading → List ℕ
verdict_in true r = verdict_by (is_broadcast (frame_in r)) (last_bit r.bits.items)
verdict_in false r = []

abbrev pub reported_text : Reading → List ℕ
reported_text r = reported_by (is_complete r.ending) r

abbrev pub verdict_text : Reading → List ℕ
verdict_text r = verdict_in (is_complete r.ending) r

-- a reading's text, from what it reports and its verdict
abbrev pub reading_text_of : Reading → List ℕ → List ℕ → List ℕ
reading_text_of r reported verdict = concat (decimal r.begin ∷ codes " " ∷ decimal r.at ∷ ending_text r.ending ∷ reported ∷ verdict ∷ [])

abbrev pub reading_text : Reading → List ℕ
reading_text r = reading_text_of r (reported_text r) (verdict_text r)

-- the same as a line
abbrev pub reading_line : Reading → List ℕ
reading_line r = reading_text r ++ codes "\n"
