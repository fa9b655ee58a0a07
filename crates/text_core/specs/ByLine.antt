-- A text that is made of the texts of lines (own).
use Rattle.std.specs.Prelude.{◌≡◌, ℕ, List, [], ◌∷◌, ◌++◌}

-- a text is one text for each of these lines, in order
abbrev pub AreInOrder : (List ℕ → List ℕ → Type 0) → List (List ℕ) → List ℕ → Type 0
AreInOrder Is [] text = text ≡ []
AreInOrder Is (line ∷ lines) text = (first : List ℕ) × (others : List ℕ) × Is line first × AreInOrder Is lines others × (text ≡ first ++ others)
