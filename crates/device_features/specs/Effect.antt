-- What a line of a table leaves and says. A message goes as its opcode and operands, and a refusal as its reason.
use Rattle.std.specs.Prelude.{List, [], ◌∷◌, Option, Some, None}
use Rattle.device_features.specs.declared.record.Record.{Record}
use Rattle.device_features.specs.declared.say.Say.{Say}

-- the record that a frame or a key leaves, and what is said, in order
pub record Effect : Type 0 where
  pub after : Record
  pub says : List Say

-- a line of a table
abbrev pub does : Record → List Say → Effect
does after says = record { after = after; says = says }

-- what is said where there is something to say
abbrev pub at_most_one : Option Say → List Say
at_most_one None = []
at_most_one (Some said) = said ∷ []
