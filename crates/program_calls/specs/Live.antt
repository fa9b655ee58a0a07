-- What a session of the program writes (own).
use Rattle.std.specs.Prelude.{ℕ, List, [], Option, Some}
use Rattle.record_core.specs.declared.cell.Form.{Form}
use Rattle.live_dialogue.specs.Dialogue.{IsDone}

-- The text that a session makes of an input, in lines or in objects: its lines are answered up to a line `end`, and what stands after
-- that line is not looked at.
abbrev pub IsLiveDone : Form → List ℕ → List ℕ → Type 0
IsLiveDone form input text = (rest : Option (List ℕ)) × IsDone form (Some input) rest (Some []) (Some text)

-- the same of a reader and a sink
abbrev pub Lives : Form → Option (List ℕ) → Option (List ℕ) → Option (List ℕ) → Type 0
Lives form known old new = (rest : Option (List ℕ)) × IsDone form known rest old new
