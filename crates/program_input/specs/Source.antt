-- Where the input of a command line comes from (own).
use Rattle.std.specs.Prelude.{ℕ, Bool, true, false, if◌then◌else◌, List, [], ◌∷◌, ◌++◌, Option, Some, None, codes}
use Rattle.std.specs.Str.{bytes_eq}
use Rattle.cli_choice.specs.declared.choice.CommandChoice.{CommandChoice}
use Rattle.cli_choice.specs.declared.choice.CommandChoice.TheVariants.{EdidDiff, Edid}
use Rattle.cli_choice.specs.declared.choice.Source.{Source as EdidSource}
use Rattle.cli_choice.specs.declared.choice.Source.TheVariants.{Pair}

-- what is known of the bytes that an operand stands for: `-` and none at all are standard input
abbrev pub known_bytes : Option (List ℕ) → Option (List ℕ) → (List ℕ → Option (List ℕ)) → Option (List ℕ)
known_bytes None stdin held = stdin
known_bytes (Some name) stdin held = if bytes_eq name (codes "-") then stdin else held name

-- files that are read one after the other are texts where they are hex dumps
abbrev pub is_pair_of_dumps : EdidSource → Bool
is_pair_of_dumps (Pair dumps table) = dumps
is_pair_of_dumps source = false

abbrev pub are_texts : CommandChoice → Bool
are_texts (EdidDiff dumps form) = dumps
are_texts (Edid (Some source) reading view) = is_pair_of_dumps source
are_texts choice = false

-- after a text stands an empty line
abbrev pub between : Bool → List ℕ
between true = 10 ∷ 10 ∷ []
between false = []

-- what is known of the bytes of some files, one file after the other
abbrev pub one_after_other : Bool → Option (List ℕ) → Option (List ℕ) → Option (List ℕ)
one_after_other texts (Some first) (Some others) = Some (first ++ between texts ++ others)
one_after_other texts first others = None

abbrev pub known_joined : Bool → (List ℕ → Option (List ℕ)) → List (List ℕ) → Option (List ℕ)
known_joined texts held [] = Some []
known_joined texts held (name ∷ names) = one_after_other texts (held name) (known_joined texts held names)

-- what the first of some files with a name holds
abbrev pub held_by : List (List ℕ × List ℕ) → List ℕ → Option (List ℕ)
held_by [] name = None
held_by (file ∷ files) name = if bytes_eq file.0 name then Some file.1 else held_by files name
