-- What the line of an expectation says (own), by the forms of room_lines. Of the causes that apply to a line it has the first in the order of
-- `ExpectCause`: the values of a pattern, of a count and of a window are read here. Times are in microseconds.
use Rattle.std.specs.Prelude.{◌≡◌, ℕ, ◌+◌, ◌-◌, ◌^◌, ◌≤◌, ◌==◌, nat_lt, nat_le, ◌&&◌, ◌||◌, not, Bool, if◌then◌else◌, codes, length, filter, slice_index, List, [], ◌∷◌, Option, Some, None, option_map, Result, Ok, Err}
use Rattle.std.specs.Option.{option_copied}
use Rattle.std.specs.Str.{bytes_eq}
use Rattle.line_wave.specs.Bounds.{latest_event}
use Rattle.text_core.specs.Number.{number_of}
use Rattle.text_core.specs.Words.{words_of, text_of}
use Rattle.text_core.specs.At.{at_word}
use Rattle.text_core.specs.declared.at.AtWord.{AtWord}
use Rattle.text_forms.specs.Forms.{Meaning, Said, late_time_at, line_of, text_at, words_at}
use Rattle.room_lines.specs.Expect.{expect_rows}
use Rattle.room_lines.specs.declared.expect.ExpectVerb.{ExpectVerb}
use Rattle.room_lines.specs.declared.expect.ExpectVerb.TheVariants as verbs
use Rattle.room_lines.specs.declared.expect.How.{How}
use Rattle.room_lines.specs.declared.expect.How.TheVariants as hows
use Rattle.expect_text.specs.Line.{is_expectation}
use Rattle.expect_text.specs.declared.form.ExpectCause.{ExpectCause}
use Rattle.expect_text.specs.declared.form.ExpectCause.TheVariants.{Word, Pattern, Number}
use Rattle.expect_text.specs.declared.form.Bound.{Bound}
use Rattle.expect_text.specs.declared.form.Bound.TheVariants.{Exactly, AtMost, AtLeast}
use Rattle.expect_text.specs.declared.form.Quantity.{Quantity}
use Rattle.expect_text.specs.declared.form.Quantity.TheVariants.{AtLeastOnce, Never, Once, Counted}
use Rattle.expect_text.specs.declared.form.ExpectWindow.{ExpectWindow as WindowRead}
use Rattle.expect_text.specs.declared.form.ExpectWindow.TheVariants as windows
use Rattle.expect_text.specs.declared.form.ExpectLine.{ExpectLine as FormRead}
use Rattle.expect_text.specs.declared.form.ExpectLine.TheVariants as forms

-- so long after the instant of a label, or from one time to another
pub data ExpectWindow : Type 0 where
  Within : ℕ → List ℕ → ExpectWindow
  From : ℕ → ℕ → ExpectWindow

-- a line that is no expectation, one of rounds, one of a device's state at a time, or one of an event that is refused with a word: that of a
-- label, or else of the line above; or one of the remarks of the audit, of which none meets a pattern, or there is none
pub data ExpectLine : Type 0 where
  Other : ExpectLine
  Rounds : Quantity → ExpectWindow → List ℕ → ExpectLine
  State : ℕ → List ℕ → List (List ℕ) → ExpectLine
  Refused : Option (List ℕ) → List ℕ → ExpectLine
  Unremarked : Option (List ℕ) → ExpectLine

-- ---- without where the texts lie in memory

abbrev pub window_of : WindowRead → ExpectWindow
window_of (windows.Within duration label) = Within duration label.now
window_of (windows.From from to) = From from to

abbrev pub window_as : Result WindowRead (AtWord ExpectCause) → Result ExpectWindow (AtWord ExpectCause)
window_as (Ok window) = Ok (window_of window)
window_as (Err fault) = Err fault

abbrev pub form_as : FormRead → ExpectLine
form_as forms.Other = Other
form_as (forms.Rounds quantity window pattern) = Rounds quantity (window_of window) pattern.now
form_as (forms.State time device words) = State time device.now (words_of words.now)
form_as (forms.Refused label word) = Refused (option_copied label) word.now
form_as (forms.Unremarked pattern) = Unremarked (option_copied pattern)

-- ---- numbers

-- a number up to 2 ^ 64 - 1, by its digits: those of a larger one read as that number, which has one numeral
abbrev pub exact_by : List ℕ → Option ℕ → Option ℕ
exact_by word None = None
exact_by word (Some n) = if (n == 2 ^ 64 - 1) && not (bytes_eq word (codes "18446744073709551615")) then None else Some n

abbrev pub exact_number : List ℕ → Option ℕ
exact_number word = exact_by word (number_of word)

-- ---- patterns

-- a space at an end
abbrev pub is_open_ended : List ℕ → Bool
is_open_ended text = (slice_index text 0 == 32) || (slice_index text (length text - 1) == 32)

-- 1 to 160 bytes with at most four `*`, of which neither the first nor the last is a space: a pattern is followed byte by byte, and
-- each `*` in one word multiplies the ways
abbrev pub stars : List ℕ → ℕ
stars text = length (filter (λ b. b == 42) text)

abbrev pub is_pattern : List ℕ → Bool
is_pattern text = nat_lt 0 (length text) && nat_le (length text) 160 && nat_le (stars text) 4 && not (is_open_ended text)

-- ---- counts

-- a count is one of those that a number allows
abbrev pub allows : Bound → ℕ → ℕ → Bool
allows Exactly number count = count == number
allows AtMost number count = nat_le count number
allows AtLeast number count = nat_le number count

-- so many rounds are as many as expected
abbrev pub is_allowed : Quantity → ℕ → Bool
is_allowed AtLeastOnce count = allows AtLeast 1 count
is_allowed Never count = allows Exactly 0 count
is_allowed Once count = allows Exactly 1 count
is_allowed (Counted bound number) count = allows bound number count

-- `at least 0` allows every count, and is none
abbrev pub at_least_one : Option ℕ → Option ℕ
at_least_one None = None
at_least_one (Some number) = if number == 0 then None else Some number

-- how many rounds, with this number where one is said
abbrev pub quantity_of : How → Option ℕ → Option Quantity
quantity_of hows.AtLeastOnce number = Some AtLeastOnce
quantity_of hows.Never number = Some Never
quantity_of hows.Once number = Some Once
quantity_of hows.Exactly number = option_map (Counted Exactly) number
quantity_of hows.AtMost number = option_map (Counted AtMost) number
quantity_of hows.AtLeast number = option_map (Counted AtLeast) (at_least_one number)

abbrev pub how_of_bound : Bound → How
how_of_bound Exactly = hows.Exactly
how_of_bound AtMost = hows.AtMost
how_of_bound AtLeast = hows.AtLeast

abbrev pub how_of : Quantity → How
how_of AtLeastOnce = hows.AtLeastOnce
how_of Never = hows.Never
how_of Once = hows.Once
how_of (Counted bound number) = how_of_bound bound

-- ---- expectations of rounds

-- the number of the word with which a window begins: a count's number stands before it
abbrev pub window_start : How → ℕ
window_start hows.AtLeastOnce = 1
window_start hows.Never = 2
window_start hows.Once = 2
window_start hows.Exactly = 3
window_start hows.AtMost = 4
window_start hows.AtLeast = 4

-- the word at fault that stands so many after the first one of a window
abbrev pub in_form : How → ℕ → ExpectCause → AtWord ExpectCause
in_form how after cause = at_word (window_start how + after) cause

abbrev pub in_window : Quantity → ℕ → ExpectCause → AtWord ExpectCause
in_window quantity after cause = in_form (how_of quantity) after cause

-- the word that stands there
abbrev pub window_text : How → ℕ → List Meaning → List ℕ
window_text how after values = text_at values (window_start how + after)

-- the text of the words from there on
abbrev pub window_pattern : How → List Meaning → List ℕ
window_pattern how values = text_of (words_at values (window_start how + 4))

abbrev pub count_said : How → List Meaning → Option Quantity
count_said how values = quantity_of how (exact_number (text_at values (window_start how - 1)))

-- a count without a number
abbrev pub uncounted : How → AtWord ExpectCause
uncounted how = at_word (window_start how - 1) Number

-- so long from the instant of a label on
abbrev pub within_by : How → Option ℕ → List ℕ → Result ExpectWindow (AtWord ExpectCause)
within_by how None label = Err (in_form how 1 Number)
within_by how (Some duration) label = Ok (Within duration label)

abbrev pub within_said : How → List Meaning → Result ExpectWindow (AtWord ExpectCause)
within_said how values = within_by how (exact_number (window_text how 1 values)) (window_text how 3 values)

-- from one time to another
abbrev pub between_by : How → Option ℕ → Option ℕ → Result ExpectWindow (AtWord ExpectCause)
between_by how None to = Err (in_form how 1 Number)
between_by how (Some from) None = Err (in_form how 3 Number)
between_by how (Some from) (Some to) = Ok (From from to)

abbrev pub between_said : How → List Meaning → Result ExpectWindow (AtWord ExpectCause)
between_said how values = between_by how (exact_number (window_text how 1 values)) (exact_number (window_text how 3 values))

abbrev pub counted_in : How → List ℕ → Option Quantity → Result ExpectWindow (AtWord ExpectCause) → Result ExpectLine (AtWord ExpectCause)
counted_in how pattern None window = Err (uncounted how)
counted_in how pattern (Some quantity) (Err fault) = Err fault
counted_in how pattern (Some quantity) (Ok window) = Ok (Rounds quantity window pattern)

-- the fault of a pattern comes first, then that of a count, then those of a window
abbrev pub rounds_in : How → List Meaning → Result ExpectWindow (AtWord ExpectCause) → Result ExpectLine (AtWord ExpectCause)
rounds_in how values window =
    if is_pattern (window_pattern how values) then counted_in how (window_pattern how values) (count_said how values) window else Err (in_form how 4 Pattern)

-- ---- expectations of states: times as in scripts, at most 1,000,000,000,000 microseconds

-- the number of the first empty word, where the first of these words has this number
abbrev pub empty_from : ℕ → List (List ℕ) → Option ℕ
empty_from number [] = None
empty_from number (word ∷ words) = if nat_lt 0 (length word) then empty_from (number + 1) words else Some number

-- the number of a word that is missing: there is one, and another one after `not`
abbrev pub lacking : List (List ℕ) → Option ℕ
lacking [] = Some 4
lacking (word ∷ []) = if bytes_eq word (codes "not") then Some 5 else None
lacking (word ∷ other ∷ words) = None

-- an empty word, or one that is missing
abbrev pub or_lacking : Option ℕ → Option ℕ → Option ℕ
or_lacking None lacked = lacked
or_lacking (Some empty) lacked = Some empty

abbrev pub bad_word : List (List ℕ) → Option ℕ
bad_word words = or_lacking (empty_from 4 words) (lacking words)

-- a time, a device, perhaps `not`, and at least one word; no word is empty
abbrev pub state_by : Option ℕ → Option ℕ → List ℕ → List (List ℕ) → Result ExpectLine (AtWord ExpectCause)
state_by (Some bad) time device words = Err (at_word bad Word)
state_by None None device words = Err (at_word 2 Number)
state_by None (Some time) device words = Ok (State time device words)

-- ---- all

abbrev pub unremarked_by : List ℕ → Result ExpectLine (AtWord ExpectCause)
unremarked_by pattern = if is_pattern pattern then Ok (Unremarked (Some pattern)) else Err (at_word 2 Pattern)

-- what the values of a form say
abbrev pub expectation_said : ExpectVerb → List Meaning → Result ExpectLine (AtWord ExpectCause)
expectation_said (verbs.Within how) values = rounds_in how values (within_said how values)
expectation_said (verbs.From how) values = rounds_in how values (between_said how values)
expectation_said verbs.State values = state_by (bad_word (words_at values 4)) (late_time_at values 2) (text_at values 3) (words_at values 4)
expectation_said verbs.Refused values = Ok (Refused (Some (text_at values 2)) (text_at values 3))
expectation_said verbs.RefusedAbove values = Ok (Refused None (text_at values 2))
expectation_said verbs.NoRemark values = Ok (Unremarked None)
expectation_said verbs.NoRemarkOf values = unremarked_by (text_of (words_at values 2))

-- what words say by the table of forms
unfoldable pub expect_said : List (List ℕ) → Said ExpectVerb
expect_said words = line_of expect_rows words

abbrev pub expectation_by : Said ExpectVerb → Result ExpectLine (AtWord ExpectCause)
expectation_by (Err fault) = Err (at_word fault.word Word)
expectation_by (Ok line) = expectation_said line.0 line.1

abbrev pub expectation_in : List (List ℕ) → Result ExpectLine (AtWord ExpectCause)
expectation_in words = expectation_by (expect_said words)

-- what a line says, by its words without the label; a label alone says nothing
abbrev pub form_in : List (List ℕ) → Result ExpectLine (AtWord ExpectCause)
form_in [] = Err (at_word 0 Word)
form_in (verb ∷ words) = if is_expectation (verb ∷ words) then expectation_in (verb ∷ words) else Ok Other

-- the time of a state is at most 1,000,000,000,000
abbrev pub IsEarly : FormRead → Type 0
IsEarly forms.Other = Unit {0}
IsEarly (forms.Rounds quantity window pattern) = Unit {0}
IsEarly (forms.State time device words) = time ≤ latest_event
IsEarly (forms.Refused label word) = Unit {0}
IsEarly (forms.Unremarked pattern) = Unit {0}

-- what is read is what the words say
abbrev pub IsForm : Result ExpectLine (AtWord ExpectCause) → Result FormRead (AtWord ExpectCause) → Type 0
IsForm said (Ok form) = said ≡ Ok (form_as form)
IsForm said (Err fault) = said ≡ Err fault
