-- The words by which a refused frame text is told (own), and which of its words is at fault, counted from 0.
use Rattle.std.specs.Prelude.{ℕ, List, codes}
use Rattle.message_text.specs.declared.assembler.AssembleError.{AssembleError}
use Rattle.message_text.specs.declared.assembler.AssembleError.TheVariants.{Name, Operand, Count, Address, TooLong}

abbrev pub assemble_cause : AssembleError → List ℕ
assemble_cause Name = codes "name"
assemble_cause Operand = codes "operand"
assemble_cause Count = codes "count"
assemble_cause Address = codes "address"
assemble_cause TooLong = codes "too-long"

-- the word from which on a text is no frame's: its addresses, its name, or what stands after
abbrev pub frame_word : AssembleError → ℕ
frame_word Address = 0
frame_word Name = 1
frame_word _ = 2
