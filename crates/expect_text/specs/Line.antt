-- Lines of a script with labels and expectations (own): `label NAME` may stand before a line.
use Rattle.std.specs.Prelude.{ℕ, nat_lt, ◌||◌, Bool, false, if◌then◌else◌, codes, List, [], ◌∷◌, ◌++◌, Option, Some, None}
use Rattle.std.specs.Str.{bytes_eq}
use Rattle.std.specs.Fmt.{decimal}
use Rattle.std.specs.List.{flat_map}
use Rattle.text_core.specs.Lines.{lines_of, is_skipped}
use Rattle.text_core.specs.Number.{number_of}
use Rattle.text_core.specs.Words.{words_of, text_of}

abbrev pub first_of : List (List ℕ) → Option (List ℕ)
first_of [] = None
first_of (name ∷ words) = Some name

-- the label of a line, by its words
abbrev pub label_in : List (List ℕ) → Option (List ℕ)
label_in [] = None
label_in (verb ∷ words) = if bytes_eq verb (codes "label") then first_of words else None

abbrev pub after_name : List (List ℕ) → List (List ℕ) → List (List ℕ)
after_name line [] = line
after_name line (name ∷ words) = words

-- the words without the label
abbrev pub unlabelled_words : List (List ℕ) → List (List ℕ)
unlabelled_words [] = []
unlabelled_words (verb ∷ words) = if bytes_eq verb (codes "label") then after_name (verb ∷ words) words else verb ∷ words

abbrev pub has_verb : List ℕ → List (List ℕ) → Bool
has_verb verb [] = false
has_verb verb (word ∷ words) = bytes_eq word verb

-- `expect ..`
abbrev pub is_expectation : List (List ℕ) → Bool
is_expectation words = has_verb (codes "expect") words

-- `at ..`
abbrev pub is_event : List (List ℕ) → Bool
is_event words = has_verb (codes "at") words

-- `pulse ..`
abbrev pub is_pulse : List (List ℕ) → Bool
is_pulse words = has_verb (codes "pulse") words

-- `pull ..`
abbrev pub is_pull : List (List ℕ) → Bool
is_pull words = has_verb (codes "pull") words

-- `pin ..`
abbrev pub is_pin : List (List ℕ) → Bool
is_pin words = has_verb (codes "pin") words

-- what a label may stand before: an expectation, an event, a pulse, a pull or a level of the pin
abbrev pub is_labelable : List (List ℕ) → Bool
is_labelable words = is_expectation words || is_event words || is_pulse words || is_pull words || is_pin words

-- `pulse T D`, `pull T D`, `pin T LEVEL`: its onset
abbrev pub onset_in : List (List ℕ) → Option ℕ
onset_in [] = None
onset_in (verb ∷ []) = None
onset_in (verb ∷ time ∷ words) = if bytes_eq verb (codes "pulse") || bytes_eq verb (codes "pull") || bytes_eq verb (codes "pin") then number_of time else None

-- what is left of these words in a script without expectations
abbrev pub plain_words : List (List ℕ) → List ℕ
plain_words words = if is_expectation words then [] else text_of words

-- what is left of a line in a script without labels and expectations
abbrev pub plain_part : List ℕ → List ℕ
plain_part line = plain_words (unlabelled_words (words_of line))

abbrev pub plain_line : List ℕ → List ℕ
plain_line line = plain_part line ++ 10 ∷ []

-- The script without labels and expectations, line for line: the line of an expectation is empty.
abbrev pub plain_script : List ℕ → List ℕ
plain_script script = flat_map plain_line (lines_of script)

-- ---- a script that ends earlier

abbrev pub is_sooner : ℕ → Option ℕ → Bool
is_sooner time None = false
is_sooner time (Some at) = nat_lt at time

-- `at U ..`, where U is before this time
abbrev pub is_before : ℕ → List (List ℕ) → Bool
is_before time [] = false
is_before time (verb ∷ []) = false
is_before time (verb ∷ at ∷ words) = is_sooner time (number_of at)

-- an event at this time or later is left out, and the end is at this time; pulses, pulls, levels of the pin and comments are kept
abbrev pub cut_line : ℕ → List ℕ → List ℕ
cut_line time line =
    if is_skipped line then line
    else if is_event (words_of line) then (if is_before time (words_of line) then line else [])
    else if has_verb (codes "end") (words_of line) then codes "end " ++ decimal time
    else line

-- a plain script that ends at a time, line for line
abbrev pub cut_script : ℕ → List ℕ → List ℕ
cut_script time script = flat_map (λ line. cut_line time line ++ 10 ∷ []) (lines_of script)
