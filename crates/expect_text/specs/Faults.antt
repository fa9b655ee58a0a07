-- Labels of a script, and its first line at fault (own). Lines count from 1. A label is a word that is not empty, stands on one
-- line alone, before an event, a pulse, a pull or an expectation, and above those that name it; of a refusal it is an event's; without one an event stands on the line above. A window does not end before it begins. The devices of
-- a pattern and of a state are of the topology, and its time is not past the end. Some line of a round meets a pattern, and some state line has each word of a state.
use Rattle.std.specs.Prelude.{ℕ, ◌+◌, ◌-◌, ◌==◌, nat_lt, ◌&&◌, ◌||◌, not, codes, Bool, true, false, if◌then◌else◌, length, take, List, [], ◌∷◌, Option, Some, None, Result, Ok, Err}
use Rattle.std.specs.Str.{bytes_eq}
use Rattle.std.specs.List.{list_any}
use Rattle.std.specs.Option.{option_map}
use Rattle.text_core.specs.Lines.{lines_of}
use Rattle.text_core.specs.Words.{words_of}
use Rattle.text_core.specs.Number.{number_of}
use Rattle.expect_text.specs.Line.{label_in, unlabelled_words, is_event, is_labelable}
use Rattle.expect_text.specs.Fault.{after_label}
use Rattle.text_core.specs.At.{at_line, at_word}
use Rattle.expect_text.specs.Form.{ExpectLine, ExpectWindow, form_in, in_window}
use Rattle.expect_text.specs.Remarks.{is_remark_called}
use Rattle.expect_text.specs.Names.{NamedPattern, is_meetable, named_in, unmet_word}
use Rattle.expect_text.specs.Senders.{Judged}
use Rattle.expect_text.specs.Senders.Judged.{Run, Capture}
use Rattle.expect_text.specs.StateTest.{strange_word}
use Rattle.expect_text.specs.Form.ExpectLine.{Other, Rounds, State, Refused, Unremarked}
use Rattle.expect_text.specs.Form.ExpectWindow.{Within, From}
use Rattle.text_core.specs.declared.at.AtWord.{AtWord}
use Rattle.expect_text.specs.declared.form.ExpectCause.{ExpectCause}
use Rattle.expect_text.specs.declared.form.ExpectCause.TheVariants.{Word, Name, Label, Order, Unmet}
use Rattle.expect_text.specs.declared.form.Quantity.{Quantity}
use Rattle.text_core.specs.declared.at.At.{At}

abbrev pub is_named : List ℕ → Option (List ℕ) → Bool
is_named name None = false
is_named name (Some label) = bytes_eq label name

-- a line has this label
abbrev pub has_label : List ℕ → List ℕ → Bool
has_label name line = is_named name (label_in (words_of line))

abbrev pub is_event_line : List ℕ → Bool
is_event_line line = is_event (unlabelled_words (words_of line))

-- the first line that has a label, or of events alone, where the first of these lines has this number
abbrev pub labelled_from : Bool → ℕ → List (List ℕ) → List ℕ → Option ℕ
labelled_from of_events number [] name = None
labelled_from of_events number (line ∷ lines) name =
    if has_label name line && (if of_events then is_event_line line else true) then Some number
    else labelled_from of_events (number + 1) lines name

-- the line of a label
abbrev pub line_of_label : List ℕ → List ℕ → Option ℕ
line_of_label script name = labelled_from false 1 (lines_of script) name

-- the line of an event's label
abbrev pub event_labelled : List ℕ → List ℕ → Option ℕ
event_labelled script name = labelled_from true 1 (lines_of script) name

-- a line of this number is an event's, and has the other number
abbrev pub is_event_on : ℕ → List ℕ → ℕ → Bool
is_event_on number line other = is_event_line line && (number == other)

-- one of these lines, of which the first has this number, is an event's, and has the other number
abbrev pub events_from : ℕ → List (List ℕ) → ℕ → Bool
events_from number [] other = false
events_from number (line ∷ lines) other = is_event_on number line other || events_from (number + 1) lines other

-- the line of this number is an event's
abbrev pub is_event_at : List ℕ → ℕ → Bool
is_event_at script number = events_from 1 (lines_of script) number

-- the line above, where it is an event's
abbrev pub event_above : List ℕ → ℕ → Option ℕ
event_above script number = if is_event_at script (number - 1) then Some (number - 1) else None

-- the line of the event that the line of this number speaks of: by its label, or else the one above
abbrev pub event_meant : List ℕ → ℕ → Option (List ℕ) → Option ℕ
event_meant script number None = event_above script number
event_meant script number (Some name) = event_labelled script name

abbrev pub is_above : ℕ → Option ℕ → Bool
is_above number None = false
is_above number (Some line) = nat_lt line number

abbrev pub is_line : ℕ → Option ℕ → Bool
is_line number None = false
is_line number (Some line) = line == number

-- a line's own label is no empty word, and stands on no line before
abbrev pub is_own_label : List ℕ → ℕ → Option (List ℕ) → Bool
is_own_label script number None = true
is_own_label script number (Some name) = nat_lt 0 (length name) && is_line number (line_of_label script name)

-- ---- states

-- `device NAME ..`
abbrev pub declared_in : List (List ℕ) → Option (List ℕ)
declared_in [] = None
declared_in (verb ∷ []) = None
declared_in (verb ∷ name ∷ words) = if bytes_eq verb (codes "device") then Some name else None

abbrev pub named_or : Option (List ℕ) → List (List ℕ) → List (List ℕ)
named_or None names = names
named_or (Some name) names = name ∷ names

abbrev pub names_in : List (List ℕ) → List (List ℕ)
names_in [] = []
names_in (line ∷ lines) = named_or (declared_in (words_of line)) (names_in lines)

-- the devices of a topology, in its order: at most 15
abbrev pub names_of : List ℕ → List (List ℕ)
names_of topology = take 15 (names_in (lines_of topology))

-- a line of the topology declares this device
abbrev pub is_declared : List ℕ → List ℕ → Bool
is_declared topology name = list_any (λ line. is_named name (declared_in (words_of line))) (lines_of topology)

-- `end T`
abbrev pub end_in : List (List ℕ) → Option ℕ
end_in [] = None
end_in (verb ∷ []) = None
end_in (verb ∷ time ∷ words) = if bytes_eq verb (codes "end") then number_of time else None

abbrev pub is_past : ℕ → Option ℕ → Bool
is_past time None = false
is_past time (Some end) = nat_lt end time

-- the script ends before this time
abbrev pub ends_before : List ℕ → ℕ → Bool
ends_before script time = list_any (λ line. is_past time (end_in (unlabelled_words (words_of line)))) (lines_of script)

-- ---- lines at fault

abbrev pub window_fault : List ℕ → ℕ → Quantity → ExpectWindow → Option (AtWord ExpectCause)
window_fault script number quantity (Within duration name) = if is_above number (line_of_label script name) then None else Some (in_window quantity 3 Label)
window_fault script number quantity (From from to) = if nat_lt to from then Some (in_window quantity 3 Order) else None

-- no line of a round meets the pattern
abbrev pub pattern_fault : Judged → Quantity → List ℕ → Option (AtWord ExpectCause)
pattern_fault who quantity pattern = if is_meetable who pattern then None else Some (in_window quantity (4 + unmet_word who pattern) Unmet)

abbrev pub or_fault : Option (AtWord ExpectCause) → Option (AtWord ExpectCause) → Option (AtWord ExpectCause)
or_fault None other = other
or_fault (Some fault) other = Some fault

-- the words with which events are refused
abbrev pub is_refusal : List ℕ → Bool
is_refusal word =
    list_any (bytes_eq word) (codes "port-range" ∷ codes "port-taken" ∷ codes "not-loose" ∷ codes "loop" ∷ codes "not-plugged" ∷ codes "not-for-kind" ∷ codes "off-wire" ∷ codes "queue-full" ∷ codes "own-address" ∷ codes "no-address" ∷ [])

-- the number of the word with which an event is refused
abbrev pub refusal_word : Option (List ℕ) → ℕ
refusal_word None = 2
refusal_word (Some name) = 3

-- there is no such event above, or no event is refused with this word
abbrev pub refusal_fault : List ℕ → ℕ → Option (List ℕ) → List ℕ → Option (AtWord ExpectCause)
refusal_fault script number name word =
    if is_above number (event_meant script number name) then (if is_refusal word then None else Some (at_word (refusal_word name) Unmet)) else Some (at_word 2 Label)

-- no state line has one of the words
abbrev pub strange_fault : Option ℕ → Option (AtWord ExpectCause)
strange_fault None = None
strange_fault (Some word) = Some (at_word word Unmet)

-- the script ends before the time, or a word is in no state line
abbrev pub state_fault : List ℕ → ℕ → List (List ℕ) → Option (AtWord ExpectCause)
state_fault script time words = if ends_before script time then Some (at_word 2 Order) else strange_fault (strange_word words)

-- no remark is called so
abbrev pub remark_fault : Option (List ℕ) → Option (AtWord ExpectCause)
remark_fault None = None
remark_fault (Some pattern) = if is_remark_called pattern then None else Some (at_word 2 Unmet)

abbrev pub form_fault : Judged → List ℕ → ℕ → ExpectLine → Option (AtWord ExpectCause)
form_fault who script number Other = None
form_fault who script number (Rounds quantity window pattern) = or_fault (window_fault script number quantity window) (pattern_fault who quantity pattern)
form_fault who script number (State time device words) = state_fault script time words
form_fault who script number (Refused name word) = refusal_fault script number name word
form_fault who script number (Unremarked pattern) = remark_fault pattern

-- a name of a pattern that is not declared, and then one after it
abbrev pub is_strange_name : List ℕ → Option NamedPattern → Bool
is_strange_name topology None = false
is_strange_name topology (Some n) = not (is_declared topology n.name)

abbrev pub has_strange_name : List ℕ → Option NamedPattern → Bool
has_strange_name topology None = false
has_strange_name topology (Some n) = not (is_declared topology n.name) || is_strange_name topology (named_in n.rest)

-- it names a device that is not declared
abbrev pub is_strange : List ℕ → ExpectLine → Bool
is_strange topology Other = false
is_strange topology (Rounds quantity window pattern) = has_strange_name topology (named_in pattern)
is_strange topology (State time device words) = not (is_declared topology device)
is_strange topology (Refused name word) = false
is_strange topology (Unremarked pattern) = false

-- the word that names it
abbrev pub strange_at : ExpectLine → AtWord ExpectCause
strange_at Other = at_word 3 Name
strange_at (Rounds quantity window pattern) = in_window quantity 4 Name
strange_at (State time device words) = at_word 3 Name
strange_at (Refused name word) = at_word 3 Name
strange_at (Unremarked pattern) = at_word 3 Name

abbrev pub fault_by : Judged → List ℕ → List ℕ → ℕ → Option (List ℕ) → Result ExpectLine (AtWord ExpectCause) → Option (AtWord ExpectCause)
fault_by who topology script number label (Err fault) = Some (after_label label fault)
fault_by who topology script number label (Ok form) =
    if is_strange topology form then Some (after_label label (strange_at form))
    else if is_own_label script number label then option_map (after_label label) (form_fault who script number form)
    else Some (at_word 1 Label)

-- what a line says without its label, which stands before no other line
abbrev pub labelled_form : Option (List ℕ) → List (List ℕ) → Result ExpectLine (AtWord ExpectCause)
labelled_form None words = form_in words
labelled_form (Some name) words = if is_labelable words then form_in words else Err (at_word 0 Word)

-- why a line is refused, and its word at fault, by what is judged and the topology
abbrev pub fault_on : Judged → List ℕ → List ℕ → ℕ → List ℕ → Option (AtWord ExpectCause)
fault_on who topology script number line = fault_by who topology script number (label_in (words_of line)) (labelled_form (label_in (words_of line)) (unlabelled_words (words_of line)))

-- of a line of expectations of a capture, which has no devices
abbrev pub reading_fault : List ℕ → ℕ → List ℕ → Option (AtWord ExpectCause)
reading_fault text number line = fault_on Capture [] text number line

abbrev pub fault_or : ℕ → Option (AtWord ExpectCause) → Option (At ExpectCause) → Option (At ExpectCause)
fault_or number None next = next
fault_or number (Some fault) next = Some (at_line number fault)

-- the first line at fault of these, of which the first has this number
abbrev pub faults_from : Judged → List ℕ → List ℕ → ℕ → List (List ℕ) → Option (At ExpectCause)
faults_from who topology script number [] = None
faults_from who topology script number (line ∷ lines) = fault_or number (fault_on who topology script number line) (faults_from who topology script (number + 1) lines)

-- of a script for a topology
abbrev pub first_fault : List ℕ → List ℕ → Option (At ExpectCause)
first_fault topology script = faults_from (Run (names_of topology)) topology script 1 (lines_of script)

-- of expectations of a capture
abbrev pub readings_fault : List ℕ → Option (At ExpectCause)
readings_fault text = faults_from Capture [] text 1 (lines_of text)
