-- How many bytes the operands of an opcode have.
use Rattle.std.specs.Prelude.{ℕ, ◌+◌}
use Rattle.message_table.specs.declared.operand.Operand.{Operand}
use Rattle.message_table.specs.declared.operand.Operand.TheVariants.{Byte, Word, Language, Vendor, Address}
use Rattle.message_table.specs.declared.operand.Operands.{Operands}
use Rattle.message_table.specs.declared.operand.Operands.TheVariants.{Raw, Nothing, One, Optional, Two, Volume, Text, WordAndText}

abbrev pub size_of : Operand → ℕ
size_of Byte = 1
size_of (Word set) = 1
size_of Language = 3
size_of Vendor = 3
size_of Address = 2

abbrev pub least_of : Operands → ℕ
least_of Raw = 0
least_of Nothing = 0
least_of (One a) = size_of a
least_of (Optional a) = 0
least_of (Two a b) = size_of a + size_of b
least_of Volume = 1
least_of Text = 1
least_of (WordAndText set) = 1

abbrev pub most_of : Operands → ℕ
most_of Raw = 14
most_of Nothing = 0
most_of (One a) = size_of a
most_of (Optional a) = size_of a
most_of (Two a b) = size_of a + size_of b
most_of Volume = 1
most_of Text = 14
most_of (WordAndText set) = 14
