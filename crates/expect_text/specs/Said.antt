-- What the line of a round can say, and the patterns that none meets. A complete reading shows its frame (CEC 6: header, opcode,
-- operands) and its verdict, another one its bits; then stands who was still sending at the end, and who had stopped. How each is
-- spelled is this profile's own. The line of a reading of a capture is the front of such a line.
use Rattle.std.specs.Prelude.{◌≡◌, ℕ, zero, suc, ◌+◌, ◌-◌, ◌⊎◌, ◌||◌, true, false, Bool, if◌then◌else◌, codes, List, [], ◌∷◌, ◌++◌, map, slice_get, Some}
use Rattle.std.specs.List.{list_any}
use Rattle.line_frames.specs.declared.Ending.{Ending}
use Rattle.line_frames.specs.declared.Ending.TheVariants.{Short, Silent, BadStart, Long, Open}
use Rattle.message_table.specs.Operands.{size_of}
use Rattle.message_table.specs.Table.{operands_of}
use Rattle.message_table.specs.declared.operand.Operand.{Operand}
use Rattle.message_table.specs.declared.operand.Operand.TheVariants as operand
use Rattle.message_table.specs.declared.operand.Operands.{Operands}
use Rattle.message_table.specs.declared.operand.Operands.TheVariants as operands
use Rattle.message_text.specs.FrameReading.{is_frame}
use Rattle.message_text.specs.FrameText.{frame_text}
use Rattle.message_text.specs.ReadingText.{bits_text, is_broadcast as is_to_all, verdict_by}
use Rattle.expect_text.specs.Bits.{FitsEnding, bits_met}
use Rattle.expect_text.specs.Parts.{any_below, is_met}
use Rattle.expect_text.specs.Senders.{Judged, IsTail, judged_as, tail_met}
use Rattle.expect_text.specs.Senders.Judged.{Run, Capture}
use Rattle.expect_text.specs.declared.hole.Hole.{Hole}
use Rattle.expect_text.specs.declared.part.PatternPart.{PatternPart}
use Rattle.expect_text.specs.declared.part.PatternPart.TheVariants.{Byte, One, Word, Unworded, Opcode}
use Rattle.expect_text.specs.declared.part.Worded.{Worded}
use Rattle.expect_text.specs.declared.part.Worded.TheVariants.{Listed, Character, Quoted, Loudness}
use Rattle.expect_text.specs.declared.part.Class.TheVariants.{Hex, Directed, Digit, NonZero, Letter, Quotable}

abbrev pub literal : List ℕ → List PatternPart
literal text = map Byte text

-- ---- operands, each after a space

-- so many of this part
abbrev pub repeat : ℕ → PatternPart → List PatternPart
repeat zero part = []
repeat (suc n) part = part ∷ repeat n part

abbrev pub operand_parts : Operand → List PatternPart
operand_parts operand.Byte = Byte 32 ∷ One Hex ∷ One Hex ∷ []
operand_parts (operand.Word set) = Byte 32 ∷ Word set ∷ []
operand_parts operand.Language = Byte 32 ∷ One Letter ∷ One Letter ∷ One Letter ∷ []
operand_parts operand.Vendor = Byte 32 ∷ One Hex ∷ One Hex ∷ One Hex ∷ One Hex ∷ One Hex ∷ One Hex ∷ []
operand_parts operand.Address = Byte 32 ∷ One Hex ∷ Byte 46 ∷ One Hex ∷ Byte 46 ∷ One Hex ∷ Byte 46 ∷ One Hex ∷ []

-- a text of so many characters in quotes
unfoldable pub quoted_parts : ℕ → List PatternPart
quoted_parts n = Byte 32 ∷ Byte 34 ∷ (repeat n (One Quotable) ++ Byte 34 ∷ [])

-- of so many characters or fewer
abbrev pub quoted_up_to : List PatternPart → ℕ → List (List PatternPart)
quoted_up_to front zero = []
quoted_up_to front (suc n) = (front ++ quoted_parts (suc n)) ∷ quoted_up_to front n

-- a volume up to 100
abbrev pub volume_parts : List ℕ → List (List PatternPart)
volume_parts word =
    (literal word ++ One Digit ∷ []) ∷ (literal word ++ One NonZero ∷ One Digit ∷ []) ∷ (literal word ++ literal (codes "100")) ∷ []

-- the words of operands that fit their row
abbrev pub worded_parts : Operands → List (List PatternPart)
worded_parts operands.Raw = []
worded_parts operands.Nothing = [] ∷ []
worded_parts (operands.One only) = operand_parts only ∷ []
worded_parts (operands.Optional only) = [] ∷ operand_parts only ∷ []
worded_parts (operands.Two first second) = (operand_parts first ++ operand_parts second) ∷ []
worded_parts operands.Volume = volume_parts (codes " mute ") ++ volume_parts (codes " sound ")
worded_parts operands.Text = quoted_up_to [] 14
worded_parts (operands.WordAndText set) = (Byte 32 ∷ Word set ∷ []) ∷ quoted_up_to (Byte 32 ∷ Word set ∷ []) 13

-- ---- operands that do not fit their row, as they are: a colon and hex digits

abbrev pub hex_parts : ℕ → List PatternPart
hex_parts n = repeat (n + n) (One Hex)

-- so many bytes
unfoldable pub raw_parts : ℕ → List PatternPart
raw_parts n = Byte 32 ∷ Byte 58 ∷ hex_parts n

-- so many bytes or more, each up to 14
abbrev pub raw_from : ℕ → ℕ → List (List PatternPart)
raw_from least zero = []
raw_from least (suc count) = raw_parts least ∷ raw_from (least + 1) count

-- any count but this one
abbrev pub raw_but : ℕ → List (List PatternPart)
raw_but n = raw_from 0 n ++ raw_from (n + 1) (14 - n)

-- a byte without a word, between so many bytes
unfoldable pub spoilt_parts : ℕ → Worded → ℕ → List PatternPart
spoilt_parts before kind after = Byte 32 ∷ Byte 58 ∷ (hex_parts before ++ Unworded kind ∷ hex_parts after)

-- between so many, and fewer after it than this
abbrev pub spoilt_at : ℕ → Worded → ℕ → List (List PatternPart)
spoilt_at before kind zero = []
spoilt_at before kind (suc after) = spoilt_parts before kind after ∷ spoilt_at before kind after

-- anywhere from there on, in so many bytes or fewer
abbrev pub spoilt_from : ℕ → Worded → ℕ → List (List PatternPart)
spoilt_from before kind zero = []
spoilt_from before kind (suc count) = spoilt_at before kind (suc count) ++ spoilt_from (before + 1) kind count

-- an operand between so many bytes
abbrev pub spoilt_operand : ℕ → Operand → ℕ → List (List PatternPart)
spoilt_operand before operand.Byte after = []
spoilt_operand before (operand.Word set) after = spoilt_parts before (Listed set) after ∷ []
spoilt_operand before operand.Language after =
    spoilt_parts before Character (2 + after) ∷ spoilt_parts (before + 1) Character (1 + after) ∷ spoilt_parts (before + 2) Character after ∷ []
spoilt_operand before operand.Vendor after = []
spoilt_operand before operand.Address after = []

abbrev pub unworded_parts : Operands → List (List PatternPart)
unworded_parts operands.Raw = raw_from 0 15
unworded_parts operands.Nothing = raw_from 1 14
unworded_parts (operands.One only) = raw_but (size_of only) ++ spoilt_operand 0 only 0
unworded_parts (operands.Optional only) = raw_from 1 (size_of only - 1) ++ (raw_from (size_of only + 1) (14 - size_of only) ++ spoilt_operand 0 only 0)
unworded_parts (operands.Two first second) =
    raw_but (size_of first + size_of second) ++ (spoilt_operand 0 first (size_of second) ++ spoilt_operand (size_of first) second 0)
unworded_parts operands.Volume = raw_but 1 ++ spoilt_parts 0 Loudness 0 ∷ []
unworded_parts operands.Text = raw_parts 0 ∷ spoilt_from 0 Quoted 14
unworded_parts (operands.WordAndText set) = raw_parts 0 ∷ (spoilt_at 0 (Listed set) 14 ++ spoilt_from 1 Quoted 13)

-- the texts that operands can have
abbrev pub operands_parts : Operands → List (List PatternPart)
operands_parts form = worded_parts form ++ unworded_parts form

-- ---- lines

-- initiator and destination
unfoldable pub header_parts : Bool → List PatternPart
header_parts is_broadcast = One Hex ∷ Byte 62 ∷ (if is_broadcast then Byte 102 else One Directed) ∷ []

-- what stands after a frame
unfoldable pub verdict_parts : Bool → Bool → List PatternPart
verdict_parts is_broadcast last_bit = literal (verdict_by is_broadcast last_bit)

-- a header and an opcode
unfoldable pub opcode_parts : Bool → ℕ → List PatternPart
opcode_parts is_broadcast code = header_parts is_broadcast ++ Byte 32 ∷ Opcode code ∷ []

-- the endings of readings that are not complete: a reading of a capture alone may be open
abbrev pub endings_of : Judged → List Ending
endings_of (Run names) = Short ∷ Silent ∷ BadStart ∷ Long ∷ []
endings_of Capture = Short ∷ Silent ∷ BadStart ∷ Long ∷ Open ∷ []

-- the word of an ending; the bits that were read stand after it, `-` for none
abbrev pub ending_word : Ending → List ℕ
ending_word Short = codes "short "
ending_word Silent = codes "silent "
ending_word BadStart = codes "bad-start "
ending_word Long = codes "long "
ending_word _ = codes "open "

-- ---- what is said

-- The text of a frame, what was read in its last acknowledge slot, and then who sent.
abbrev pub frame_said : List ℕ → Bool → List ℕ → List ℕ
frame_said frame last_bit tail = frame_text frame ++ (verdict_by (is_to_all (Some frame)) last_bit ++ tail)

-- The bits of a reading that is not complete, and then who sent.
abbrev pub bits_said : Ending → List Bool → List ℕ → List ℕ
bits_said ending bits tail = ending_word ending ++ (bits_text bits ++ tail)

abbrev pub IsFrameSaid : Judged → List ℕ → Type 0
IsFrameSaid who text = (frame : List ℕ) × (last_bit : Bool) × (tail : List ℕ) × (is_frame frame ≡ true) × IsTail who tail × (text ≡ frame_said frame last_bit tail)

abbrev pub IsBitsSaid : Judged → List ℕ → Type 0
IsBitsSaid who text = (ending : Ending) × (place : ℕ) × (bits : List Bool) × (tail : List ℕ) × (slice_get (endings_of who) place ≡ Some ending)
    × FitsEnding ending bits × IsTail who tail × (text ≡ bits_said ending bits tail)

-- a text that the line of a round can have after its times, without the word `complete`
abbrev pub IsSaid : Judged → List ℕ → Type 0
IsSaid who text = IsFrameSaid who text ⊎ IsBitsSaid who text

-- ---- patterns, by what stands at the end of a line

-- by a frame of this opcode, with this verdict
abbrev pub is_operand_met : Judged → Bool → ℕ → List ℕ → Bool → Bool
is_operand_met who is_broadcast code pattern last_bit =
    list_any (λ operands. is_met (tail_met who) (opcode_parts is_broadcast code ++ (operands ++ verdict_parts is_broadcast last_bit)) pattern) (operands_parts (operands_of code))

abbrev pub is_opcode_met : Judged → Bool → List ℕ → ℕ → Bool
is_opcode_met who is_broadcast pattern code = is_operand_met who is_broadcast code pattern false || is_operand_met who is_broadcast code pattern true

-- by a poll, which is a header alone, with this verdict
abbrev pub is_poll_met : Judged → Bool → List ℕ → Bool → Bool
is_poll_met who is_broadcast pattern last_bit = is_met (tail_met who) (header_parts is_broadcast ++ verdict_parts is_broadcast last_bit) pattern

-- by a complete reading
abbrev pub is_complete_met : Judged → List ℕ → Bool → Bool
is_complete_met who pattern is_broadcast =
    is_poll_met who is_broadcast pattern false || (is_poll_met who is_broadcast pattern true || any_below 256 (is_opcode_met who is_broadcast pattern))

-- by a reading with this ending
abbrev pub is_ending_met : Judged → List ℕ → Ending → Bool
is_ending_met who pattern ending = is_met (bits_met ending (tail_met who)) (literal (ending_word ending)) pattern

-- by a reading that is not over
abbrev pub is_open_met : Judged → List ℕ → Bool
is_open_met (Run names) pattern = false
is_open_met Capture pattern = is_ending_met Capture pattern Open

-- by a line with these operands, as it is followed
abbrev pub hole_met : Hole → List PatternPart → Bool
hole_met h operands = is_met (tail_met (judged_as h.who)) (h.front.now ++ (operands ++ h.back.now)) h.pattern.now

-- what the line of some round says meets the pattern
unfoldable pub is_said : Judged → List ℕ → Bool
is_said who pattern =
    list_any (is_ending_met who pattern) (endings_of who) || (is_complete_met who pattern false || is_complete_met who pattern true)
