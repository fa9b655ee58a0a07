-- A text of any form that is read: its first line is passed, and the rest is read (own).
use Rattle.std.specs.Prelude.{◌≡◌, ℕ, ◌+◌, List, [], ◌∷◌, ◌++◌, Result, Ok}
use Rattle.std.specs.Option.{option_to_list}
use Rattle.std.specs.List.{slice_split}
use Rattle.line_wave.specs.declared.Edge.{Edge}
use Rattle.capture_core.specs.Edges.{Captured}
use Rattle.capture_core.specs.Reading.{Form, Passed, Step, at_word, line_read, lines_read, onto, with_edges, words_read}
use Rattle.capture_core.specs.declared.fault.Cause.{Cause}

-- of a text that is read: its first line is passed, and the rest is read
pub record LineOnward (S : Type 0) (form : Form S) (number : ℕ) (line : List ℕ) (lines : List (List ℕ)) (s : S) (e : Captured) : Type 0 where
  pub passed : Passed S
  pub is_passed : line_read form number line s ≡ Ok passed
  pub rest : Captured
  pub read : lines_read form (number + 1) lines passed.state ≡ Ok rest
  pub is : e ≡ record { edges = passed.edges ++ rest.edges; end = rest.end }

-- the same of a text whose first line is one word: it is taken, and the rest is read
pub record Onward (S : Type 0) (form : Form S) (number : ℕ) (line : List ℕ) (lines : List (List ℕ)) (s : S) (e : Captured) : Type 0 where
  pub step : Step S
  pub took : form.took 0 line s ≡ Ok step
  pub rest : Captured
  pub read : lines_read form (number + 1) lines step.state ≡ Ok rest
  pub is : e ≡ record { edges = option_to_list step.edge ++ rest.edges; end = rest.end }

-- the edges of a word that is taken come before those of the words after it
abbrev pub WordsAreTaken : Type 0 → Type 0
WordsAreTaken S = (form : Form S) (line number : ℕ) (word : List ℕ) (words : List (List ℕ)) (s : S) (step : Step S)
    → form.took number word s ≡ Ok step
    → words_read form line number (word ∷ words) s ≡ onto (option_to_list step.edge) (words_read form line (number + 1) words step.state)

-- those of a line that is passed before those of the lines after it
abbrev pub LinesArePassed : Type 0 → Type 0
LinesArePassed S = (form : Form S) (number : ℕ) (line : List ℕ) (lines : List (List ℕ)) (s t : S) (edges : List Edge)
    → line_read form number line s ≡ Ok (record { edges = edges; state = t })
    → lines_read form number (line ∷ lines) s ≡ with_edges edges (lines_read form (number + 1) lines t)

-- a line of one word is passed where its word is taken
abbrev pub WordsAloneArePassed : Type 0 → Type 0
WordsAloneArePassed S = (form : Form S) (number : ℕ) (line : List ℕ) (lines : List (List ℕ)) (s : S) (step : Step S)
    → slice_split form.is_gap line ≡ line ∷ [] → form.took 0 line s ≡ Ok step
    → lines_read form number (line ∷ lines) s ≡ with_edges (option_to_list step.edge) (lines_read form (number + 1) lines step.state)

-- the first line of a text that is read is passed
abbrev pub ReadTextsPassLines : Type 0 → Type 0
ReadTextsPassLines S = (form : Form S) (number : ℕ) (line : List ℕ) (lines : List (List ℕ)) (s : S) (e : Captured)
    → lines_read form number (line ∷ lines) s ≡ Ok e → LineOnward S form number line lines s e

-- where it is one word, that is taken
abbrev pub ReadTextsTakeWords : Type 0 → Type 0
ReadTextsTakeWords S = (form : Form S) (number : ℕ) (line : List ℕ) (lines : List (List ℕ)) (s : S) (e : Captured)
    → slice_split form.is_gap line ≡ line ∷ [] → lines_read form number (line ∷ lines) s ≡ Ok e
    → Onward S form number line lines s e

-- what a word leads to is the same where a refusal has the number of its word
abbrev pub StepsStay : Type 0 → Type 0
StepsStay S = (word : ℕ) (stepped : Result (Step S) Cause) (step : Step S) → at_word word stepped ≡ Ok step → stepped ≡ Ok step
