-- Lines of expectations of a capture (own): `label NAME at T` names an instant, `expect ..` says what is to be read, and a label may
-- stand before it. Lines that are empty or begin with `#` have no meaning. A script may stand for them: an event with a label names its
-- time, and other events, pulses without a label and the end are passed over. There are no other lines.
use Rattle.std.specs.Prelude.{ℕ, ◌&&◌, ◌||◌, Bool, false, if◌then◌else◌, codes, List, [], ◌∷◌, Option, Some, None}
use Rattle.std.specs.Option.{option_map}
use Rattle.std.specs.List.{list_any}
use Rattle.std.specs.Str.{bytes_eq}
use Rattle.text_core.specs.Lines.{is_skipped}
use Rattle.text_core.specs.Words.{words_of}
use Rattle.expect_text.specs.Fault.{after_label}
use Rattle.text_core.specs.At.{at_word}
use Rattle.text_forms.specs.Forms.{Place, is_itself}
use Rattle.room_lines.specs.Script.{script_rows}
use Rattle.room_lines.specs.declared.script.ScriptVerb.{ScriptVerb}
use Rattle.expect_text.specs.Form.{exact_number}
use Rattle.expect_text.specs.Line.{unlabelled_words, has_verb, label_in}
use Rattle.text_core.specs.declared.at.AtWord.{AtWord}
use Rattle.expect_text.specs.declared.form.ExpectCause.{ExpectCause}
use Rattle.expect_text.specs.declared.form.ExpectCause.TheVariants.{Word, Number}

abbrev pub number_by : Option (List ℕ) → Option ℕ
number_by None = None
number_by (Some word) = exact_number word

-- ---- instants

-- a place of a form that has this word itself
abbrev pub is_own : List ℕ → Place → Bool
is_own word place = is_itself place.0 && bytes_eq place.1 word

abbrev pub is_first : List ℕ → List Place → Bool
is_first word [] = false
is_first word (place ∷ places) = is_own word place

abbrev pub is_third : List ℕ → List Place → Bool
is_third word [] = false
is_third word (at ∷ []) = false
is_third word (at ∷ time ∷ []) = false
is_third word (at ∷ time ∷ place ∷ places) = is_own word place

abbrev pub is_any_first : List ℕ → List (ScriptVerb × List Place) → Bool
is_any_first word rows = list_any (λ row. is_first word row.1) rows

abbrev pub is_any_third : List ℕ → List (ScriptVerb × List Place) → Bool
is_any_third word rows = list_any (λ row. is_third word row.1) rows

-- the words with which a line of a script begins, and those with which an event does after its time
unfoldable pub is_line_word : List ℕ → Bool
is_line_word word = is_any_first word script_rows

unfoldable pub is_event_word : List ℕ → Bool
is_event_word word = is_any_third word script_rows

-- a time, alone or with an event after it
abbrev pub time_word : List (List ℕ) → Option (List ℕ)
time_word [] = None
time_word (time ∷ []) = Some time
time_word (time ∷ word ∷ words) = if is_event_word word then Some time else None

-- `at T`, or `at T` and an event
abbrev pub instant_in : List (List ℕ) → Option ℕ
instant_in [] = None
instant_in (verb ∷ words) = if bytes_eq verb (codes "at") then number_by (time_word words) else None

-- the instant that a line names
abbrev pub instant_of : List ℕ → Option ℕ
instant_of line = instant_in (unlabelled_words (words_of line))

-- ---- faults

-- a time is a number, of the word with this number
abbrev pub time_fault : ℕ → Option ℕ → Option (AtWord ExpectCause)
time_fault word None = Some (at_word word Number)
time_fault word (Some t) = None

-- the words after `label NAME at` are one number, or that and an event
abbrev pub named_fault : List (List ℕ) → Option (AtWord ExpectCause)
named_fault [] = Some (at_word 3 Word)
named_fault (time ∷ []) = time_fault 3 (exact_number time)
named_fault (time ∷ word ∷ words) = if is_event_word word then time_fault 3 (exact_number time) else Some (at_word 4 Word)

-- an event without a label
abbrev pub event_fault : List (List ℕ) → Option (AtWord ExpectCause)
event_fault [] = Some (at_word 0 Word)
event_fault (time ∷ []) = Some (at_word 0 Word)
event_fault (time ∷ word ∷ words) = if is_event_word word then time_fault 1 (exact_number time) else Some (at_word 0 Word)

-- a label stands before `at T`
abbrev pub instant_fault : Option (List ℕ) → List (List ℕ) → Option (AtWord ExpectCause)
instant_fault None words = event_fault words
instant_fault (Some label) words = named_fault words

-- a capture reports neither refusals nor states; what its audit says has no instant, and so no label
abbrev pub is_of_run : List (List ℕ) → Bool
is_of_run words = has_verb (codes "refused") words || has_verb (codes "state") words || has_verb (codes "no-remark") words

abbrev pub expectation_fault : List (List ℕ) → Option (AtWord ExpectCause)
expectation_fault words = if is_of_run words then Some (at_word 1 Word) else None

-- no line begins so, or none after a label; a lone `label` has no name
abbrev pub verb_fault : Option (List ℕ) → List ℕ → AtWord ExpectCause
verb_fault None verb = if bytes_eq verb (codes "label") then at_word 1 Word else at_word 0 Word
verb_fault (Some label) verb = at_word 2 Word

-- a line of a script that is no event, without a label
abbrev pub is_passed : Option (List ℕ) → List ℕ → Bool
is_passed None verb = is_line_word verb
is_passed (Some label) verb = false

abbrev pub kind_fault : Option (List ℕ) → List (List ℕ) → Option (AtWord ExpectCause)
kind_fault label [] = Some (after_label label (at_word 0 Word))
kind_fault label (verb ∷ words) =
    if bytes_eq verb (codes "expect") then option_map (after_label label) (expectation_fault words)
    else if bytes_eq verb (codes "at") then instant_fault label words
    else if is_passed label verb then None
    else Some (verb_fault label verb)

-- why a line is none of a capture's, and its word at fault
abbrev pub line_fault : List ℕ → Option (AtWord ExpectCause)
line_fault line = if is_skipped line then None else kind_fault (label_in (words_of line)) (unlabelled_words (words_of line))
