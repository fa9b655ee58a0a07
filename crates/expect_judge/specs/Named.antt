-- The lines of a script that others speak of (own): those that have a label, and those of which the line below expects that their
-- event is refused. Lines count from 1.
use Rattle.std.specs.Prelude.{ℕ, ◌+◌, ◌-◌, ◌==◌, ◌&&◌, ◌||◌, Bool, true, false, is_some, List, [], ◌∷◌, Some, None, Result, Ok, Err}
use Rattle.text_core.specs.Lines.{lines_of}
use Rattle.text_core.specs.Words.{words_of}
use Rattle.expect_text.specs.Line.{label_in, unlabelled_words}
use Rattle.expect_text.specs.Form.{ExpectLine, form_in}
use Rattle.expect_text.specs.Form.ExpectLine.{Other, Rounds, State, Refused, Unremarked}
use Rattle.text_core.specs.declared.at.AtWord.{AtWord}
use Rattle.expect_text.specs.declared.form.ExpectCause.{ExpectCause}

abbrev pub is_labelled : List ℕ → Bool
is_labelled line = is_some (label_in (words_of line))

abbrev pub form_is_of_above : Result ExpectLine (AtWord ExpectCause) → Bool
form_is_of_above (Err cause) = false
form_is_of_above (Ok Other) = false
form_is_of_above (Ok (Rounds quantity window pattern)) = false
form_is_of_above (Ok (State time device words)) = false
form_is_of_above (Ok (Unremarked pattern)) = false
form_is_of_above (Ok (Refused None word)) = true
form_is_of_above (Ok (Refused (Some name) word)) = false

-- a line expects that the event of the line above is refused
abbrev pub is_of_above : List ℕ → Bool
is_of_above line = form_is_of_above (form_in (unlabelled_words (words_of line)))

-- a line with this number has a label, and the other number, or is of the line above, which has it
abbrev pub names_line : ℕ → List ℕ → ℕ → Bool
names_line number line other = (is_labelled line && (number == other)) || (is_of_above line && (number - 1 == other))

-- one of these lines does, of which the first has this number
abbrev pub name_lines : ℕ → List (List ℕ) → ℕ → Bool
name_lines number [] other = false
name_lines number (line ∷ lines) other = names_line number line other || name_lines (number + 1) lines other

-- others speak of the line of this number
abbrev pub is_named : List ℕ → ℕ → Bool
is_named script number = name_lines 1 (lines_of script) number
