-- What holds of every opcode.
use Rattle.std.specs.Prelude.{◌≡◌, ℕ, ◌==◌, ◌||◌, ◌&&◌, nat_le, is_some, Bool, true, List, ◌∷◌, length}
use Rattle.text_core.specs.Bytes.{are_bytes}
use Rattle.message_table.specs.Operands.{size_of, least_of, most_of}
use Rattle.message_table.specs.declared.operand.Operands.{Operands}
use Rattle.message_table.specs.declared.operand.Operands.TheVariants.{Optional}
use Rattle.message_table.specs.declared.message.Decoded.{Decoded}
use Rattle.message_table.specs.Table.{decoding, operands_of, row_of, spelling}
use Rattle.message_table.specs.declared.message.Message.{Message}
use Rattle.message_table.specs.declared.message.Decoded.TheVariants.{Known}

-- operands as many as these have
abbrev pub fits : Operands → List ℕ → Bool
fits (Optional a) xs = (length xs == 0) || (length xs == size_of a)
fits operands xs = nat_le (least_of operands) (length xs) && nat_le (length xs) (most_of operands)

-- a message that a frame of these operands says, and that is sent as this frame
pub record SaysOperands (code : ℕ) (operands : List ℕ) (says : Decoded) : Type 0 where
  pub message : Message
  pub said : says ≡ Known message
  pub sent : spelling message ≡ code ∷ operands

abbrev pub KeepsOperands : ℕ → Type 0
KeepsOperands code = (operands : List ℕ) → is_some (row_of code) ≡ true → are_bytes operands ≡ true → fits (operands_of code) operands ≡ true
    → SaysOperands code operands (decoding code operands (row_of code))
