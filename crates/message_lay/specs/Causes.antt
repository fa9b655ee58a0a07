-- Why a line is not laid (own).
use Rattle.std.specs.Prelude.{ℕ, List, ◌++◌, codes}
use Rattle.message_text.specs.Causes.{assemble_cause}
use Rattle.message_lay.specs.declared.fault.LayCause.{LayCause}
use Rattle.message_lay.specs.declared.fault.LayCause.TheVariants.{Word, Number, Width, Frame, Blocks, Slot, Order, Late}

-- the words by which a refused line is reported
abbrev pub lay_cause : LayCause → List ℕ
lay_cause Word = codes "word"
lay_cause Number = codes "number"
lay_cause Width = codes "width"
lay_cause (Frame cause) = codes "frame " ++ assemble_cause cause
lay_cause Blocks = codes "blocks"
lay_cause Slot = codes "slot"
lay_cause Order = codes "order"
lay_cause Late = codes "late"
