-- Which message the words of a frame's operands tell.
use Rattle.std.specs.Prelude.{◌≡◌, ℕ, true, Some, List}
use Rattle.message_table.specs.Laws.{SaysOperands}
use Rattle.message_table.specs.Table.{decoding, operands_of, row_of}
use Rattle.text_core.specs.Bytes.{are_bytes}
use Rattle.message_text.specs.FrameText.{operand_words}

-- Operands that have words say a message, and this frame is that message's.
abbrev pub WordsReportMessages : ℕ → Type 0
WordsReportMessages code = (operands text : List ℕ) → are_bytes operands ≡ true → operand_words (operands_of code) operands ≡ Some text
    → SaysOperands code operands (decoding code operands (row_of code))
