-- The texts of the parts of a line: those by which a pattern is found to be met.
use Rattle.std.proofs.Common.{◌≡◌, ℕ, ◌<◌, ◌⊎◌, Bool, List, ◌++◌, slice_get, Some}
use Rattle.line_frames.specs.declared.Ending.{Ending}
use Rattle.message_table.specs.Table.{operands_of}
use Rattle.message_text.specs.ReadingText.{bits_text}
use Rattle.expect_text.specs.Bits.{FitsEnding}
use Rattle.expect_text.specs.Parts.{IsTextBefore}
use Rattle.expect_text.specs.Said.{ending_word, endings_of, header_parts, literal, opcode_parts, operands_parts, verdict_parts}
use Rattle.expect_text.specs.Senders.{Judged, IsTail}
use Rattle.expect_text.specs.declared.part.PatternPart.{PatternPart}

-- a header alone, one with an opcode and its operands, and a reading that is not complete; and then who sent
abbrev pub IsPollSpelled : Judged → List ℕ → Type 0
IsPollSpelled who text = (is_broadcast last_bit : Bool) × IsTextBefore (IsTail who) (header_parts is_broadcast ++ verdict_parts is_broadcast last_bit) text

abbrev pub IsFrameSpelled : Judged → List ℕ → Type 0
IsFrameSpelled who text = (is_broadcast last_bit : Bool) × (code place : ℕ) × (operands : List PatternPart) × (code < 256)
    × (slice_get (operands_parts (operands_of code)) place ≡ Some operands)
    × IsTextBefore (IsTail who) (opcode_parts is_broadcast code ++ (operands ++ verdict_parts is_broadcast last_bit)) text

-- what is shown of bits, and then who sent
abbrev pub BitsBefore : Judged → Ending → List ℕ → Type 0
BitsBefore who ending text = (bits : List Bool) × (tail : List ℕ) × FitsEnding ending bits × IsTail who tail × (text ≡ bits_text bits ++ tail)

abbrev pub IsEndingSpelled : Judged → List ℕ → Type 0
IsEndingSpelled who text = (ending : Ending) × (place : ℕ) × (slice_get (endings_of who) place ≡ Some ending)
    × IsTextBefore (BitsBefore who ending) (literal (ending_word ending)) text

abbrev pub IsSpelled : Judged → List ℕ → Type 0
IsSpelled who text = IsPollSpelled who text ⊎ IsFrameSpelled who text ⊎ IsEndingSpelled who text
