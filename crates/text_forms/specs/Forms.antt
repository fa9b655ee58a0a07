-- Forms of lines (own). A form is a row of places. The table of the forms is the code's.
use Rattle.std.specs.Prelude.{ℕ, ◌+◌, ◌==◌, ◌&&◌, ◌||◌, Bool, true, false, if◌then◌else◌, codes, List, [], ◌∷◌, get_or, length, map, max, min, Option, Some, None, option_map, is_none, is_some, Result, Ok, Err}
use Rattle.std.specs.Str.{bytes_eq}
use Rattle.text_core.specs.At.{at_word}
use Rattle.text_core.specs.declared.at.AtWord.{AtWord}
use Rattle.text_core.specs.Hex.{hex_byte}
use Rattle.text_core.specs.Kind.{kind_named}
use Rattle.text_core.specs.declared.kind.Kind.{Kind}
use Rattle.text_core.specs.declared.kind.Kind.TheVariants.{Tv}
use Rattle.text_core.specs.Number.{number_of}
use Rattle.text_core.specs.Words.{words_of}
use Rattle.text_forms.specs.Limits.{at_most, last_byte, last_port, latest, most_ports}
use Rattle.text_forms.specs.declared.form.Slot.{Slot}
use Rattle.text_forms.specs.declared.form.Slot.TheVariants as slots
use Rattle.text_forms.specs.declared.form.LineCause.{LineCause}
use Rattle.text_forms.specs.declared.form.LineCause.TheVariants as causes
use Rattle.text_forms.specs.declared.value.Value.{Value}
use Rattle.text_forms.specs.declared.value.Value.TheVariants as values
use Rattle.text_forms.specs.declared.read.FormLine.{FormLine}

-- what a place is, and its text: the word itself, or the name of the value
abbrev pub Place : Type 0
Place = Slot × List ℕ

-- ---- how far a line fits

abbrev pub is_itself : Slot → Bool
is_itself slots.Word = true
is_itself slots.Key = true
is_itself _ = false

abbrev pub is_rest : Slot → Bool
is_rest slots.Rest = true
is_rest _ = false

-- a word that is no opcode does not fit one; what else has no value fits, and is at fault
abbrev pub may_be : Slot → List ℕ → Bool
may_be slots.Opcode word = is_some (hex_byte word)
may_be _ word = true

abbrev pub fits : Place → List ℕ → Bool
fits place word = if is_itself place.0 then bytes_eq place.1 word else may_be place.0 word

-- so many words from the left
unfoldable pub fitting : List Place → List (List ℕ) → ℕ
fitting [] words = 0
fitting (place ∷ others) [] = 0
fitting (place ∷ others) (word ∷ words) = if fits place word then 1 + fitting others words else 0

-- all words, and no more
unfoldable pub is_whole : List Place → List (List ℕ) → Bool
is_whole [] [] = true
is_whole [] (word ∷ words) = false
is_whole (place ∷ others) [] = false
is_whole (place ∷ others) (word ∷ words) = fits place word && (is_rest place.0 || is_whole others words)

-- a word that a form has itself is as long as the line's; such words are as many, unless the form takes all that stands
abbrev pub is_as_long : Place → List ℕ → Bool
is_as_long place word = if is_itself place.0 then length place.1 == length word else true

unfoldable pub are_as_long : List Place → List (List ℕ) → Bool
are_as_long [] [] = true
are_as_long [] (word ∷ words) = false
are_as_long (place ∷ others) [] = false
are_as_long (place ∷ others) (word ∷ words) = is_as_long place word && (is_rest place.0 || are_as_long others words)

unfoldable pub most_fitting : {V : Type 0} → List (V × List Place) → List (List ℕ) → ℕ
most_fitting [] words = 0
most_fitting (row ∷ others) words = max (fitting row.1 words) (most_fitting others words)

-- the first row whose form a line has
unfoldable pub row_of : {V : Type 0} → List (V × List Place) → List (List ℕ) → Option (V × List Place)
row_of [] words = None
row_of (row ∷ others) words = if is_whole row.1 words then Some row else row_of others words

-- ---- values

-- what a word says
pub data Meaning : Type 0 where
  Itself : Meaning
  Number : ℕ → Meaning
  PortOf : ℕ → Meaning
  PortsOf : ℕ → Meaning
  Level : Bool → Meaning
  KindOf : Kind → Meaning
  Text : List ℕ → Meaning
  Words : List (List ℕ) → Meaning

abbrev pub level_of : List ℕ → Option Bool
level_of word = if bytes_eq word (codes "0") then Some false else if bytes_eq word (codes "1") then Some true else None

abbrev pub switch_of : List ℕ → Option Bool
switch_of word = if bytes_eq word (codes "off") then Some false else if bytes_eq word (codes "on") then Some true else None

-- the value of one word
abbrev pub meaning_of : Slot → List ℕ → Option Meaning
meaning_of slots.Word word = Some Itself
meaning_of slots.Key word = Some Itself
meaning_of slots.Switch word = option_map Level (switch_of word)
meaning_of slots.Time word = option_map Number (at_most latest (number_of word))
meaning_of slots.LateTime word = option_map Number (at_most latest (number_of word))
meaning_of slots.Opcode word = option_map Number (hex_byte word)
meaning_of slots.Number word = option_map Number (number_of word)
meaning_of slots.Port word = option_map PortOf (option_map (λ n. min n last_port) (number_of word))
meaning_of slots.KeyPort word = option_map PortOf (option_map (λ n. min n last_port) (number_of word))
meaning_of slots.Ports word = option_map PortsOf (at_most most_ports (number_of word))
meaning_of slots.Level word = option_map Level (level_of word)
meaning_of slots.Kind word = option_map KindOf (kind_named word)
meaning_of slots.Text word = Some (Text word)
meaning_of slots.Rest word = Some (Text word)

-- ---- faults

abbrev pub cause_of : Slot → LineCause
cause_of slots.Time = causes.Number
cause_of slots.LateTime = causes.Number
cause_of slots.Number = causes.Number
cause_of slots.Port = causes.Number
cause_of slots.KeyPort = causes.Number
cause_of slots.Ports = causes.Number
cause_of slots.Level = causes.Number
cause_of _ = causes.Word

-- whose fault is told first: words, the port of a key, other numbers; that of a late time is left to the caller
abbrev pub turn_of : Slot → ℕ
turn_of slots.KeyPort = 1
turn_of slots.Time = 2
turn_of slots.Number = 2
turn_of slots.Port = 2
turn_of slots.Ports = 2
turn_of slots.Level = 2
turn_of slots.LateTime = 3
turn_of _ = 0

-- the first place of a turn whose word has no value
unfoldable pub fault_in : ℕ → ℕ → List Place → List (List ℕ) → Option (AtWord LineCause)
fault_in turn before [] words = None
fault_in turn before (place ∷ others) [] = None
fault_in turn before (place ∷ others) (word ∷ words) =
    if (turn_of place.0 == turn) && is_none (meaning_of place.0 word) then Some (at_word before (cause_of place.0))
    else fault_in turn (before + 1) others words

-- whether a word at some place has no value
unfoldable pub lacks_value : List Place → List (List ℕ) → Bool
lacks_value [] words = false
lacks_value (place ∷ others) [] = false
lacks_value (place ∷ others) (word ∷ words) = is_none (meaning_of place.0 word) || lacks_value others words

-- a line that is read has a value at each place, but for a late time that is none
abbrev pub value_or : Option Meaning → Meaning
value_or None = Itself
value_or (Some value) = value

-- what the places say
unfoldable pub meanings_of : List Place → List (List ℕ) → List Meaning
meanings_of [] words = []
meanings_of (place ∷ others) [] = []
meanings_of (place ∷ others) (word ∷ words) =
    if is_rest place.0 then Words (word ∷ words) ∷ [] else value_or (meaning_of place.0 word) ∷ meanings_of others words

-- ---- lines

-- a line's form and its values
abbrev pub Said : Type 0 → Type 0
Said V = Result (V × List Meaning) (AtWord LineCause)

abbrev pub unless : {V : Type 0} → Option (AtWord LineCause) → Said V → Said V
unless None read = read
unless (Some fault) read = Err fault

abbrev pub read_by : {V : Type 0} → V → List Place → List (List ℕ) → Said V
read_by verb form words =
    unless (fault_in 0 0 form words) (unless (fault_in 1 0 form words) (unless (fault_in 2 0 form words) (Ok (verb, meanings_of form words))))

abbrev pub read_of : {V : Type 0} → ℕ → Option (V × List Place) → List (List ℕ) → Said V
read_of most None words = Err (at_word most causes.Word)
read_of most (Some row) words = read_by row.0 row.1 words

-- what a line says by a table, or the first fault
abbrev pub line_of : {V : Type 0} → List (V × List Place) → List (List ℕ) → Said V
line_of table words = read_of (most_fitting table words) (row_of table words) words

-- ---- the program's values

abbrev pub meant : Value → Meaning
meant values.Itself = Itself
meant (values.Number n) = Number n
meant (values.Port n) = PortOf n
meant (values.Ports n) = PortsOf n
meant (values.Level is) = Level is
meant (values.Kind kind) = KindOf kind
meant (values.Text word) = Text word.now
meant (values.Rest text) = Words (words_of text.now)

abbrev pub values_of : {V : Type 0} → FormLine V → List Meaning
values_of line = meanings_of (map (λ p. (p.0, p.1.now)) line.form.now) (words_of line.text.now)

-- what is answered of a line
abbrev pub said : {V : Type 0} → Result (FormLine V) (AtWord LineCause) → Said V
said (Ok line) = Ok (line.verb, values_of line)
said (Err fault) = Err fault

abbrev pub number_of_meaning : Meaning → ℕ
number_of_meaning (Number n) = n
number_of_meaning _ = 0

-- (no word says a greater byte)
abbrev pub byte_of_meaning : Meaning → ℕ
byte_of_meaning (Number n) = min n last_byte
byte_of_meaning _ = 0

-- (no word says a later time)
abbrev pub time_of_meaning : Meaning → ℕ
time_of_meaning (Number n) = min n latest
time_of_meaning _ = 0

abbrev pub late_time_of_meaning : Meaning → Option ℕ
late_time_of_meaning (Number n) = Some (min n latest)
late_time_of_meaning _ = None

abbrev pub port_of_meaning : Meaning → ℕ
port_of_meaning (PortOf n) = n
port_of_meaning _ = 0

-- (no word says more ports than a device can have)
abbrev pub ports_of_meaning : Meaning → ℕ
ports_of_meaning (PortsOf n) = min n most_ports
ports_of_meaning _ = 0

abbrev pub level_of_meaning : Meaning → Bool
level_of_meaning (Level is) = is
level_of_meaning _ = false

abbrev pub kind_of_meaning : Meaning → Kind
kind_of_meaning (KindOf kind) = kind
kind_of_meaning _ = Tv

abbrev pub text_of_meaning : Meaning → List ℕ
text_of_meaning (Text word) = word
text_of_meaning _ = []

abbrev pub words_of_meaning : Meaning → List (List ℕ)
words_of_meaning (Words words) = words
words_of_meaning _ = []

-- ---- values by their places

abbrev pub text_at : List Meaning → ℕ → List ℕ
text_at values place = text_of_meaning (get_or values place Itself)

abbrev pub port_at : List Meaning → ℕ → ℕ
port_at values place = port_of_meaning (get_or values place Itself)

abbrev pub ports_at : List Meaning → ℕ → ℕ
ports_at values place = ports_of_meaning (get_or values place Itself)

abbrev pub kind_at : List Meaning → ℕ → Kind
kind_at values place = kind_of_meaning (get_or values place Itself)

abbrev pub number_at : List Meaning → ℕ → ℕ
number_at values place = number_of_meaning (get_or values place Itself)

abbrev pub byte_at : List Meaning → ℕ → ℕ
byte_at values place = byte_of_meaning (get_or values place Itself)

abbrev pub time_at : List Meaning → ℕ → ℕ
time_at values place = time_of_meaning (get_or values place Itself)

abbrev pub late_time_at : List Meaning → ℕ → Option ℕ
late_time_at values place = late_time_of_meaning (get_or values place Itself)

abbrev pub level_at : List Meaning → ℕ → Bool
level_at values place = level_of_meaning (get_or values place Itself)

abbrev pub words_at : List Meaning → ℕ → List (List ℕ)
words_at values place = words_of_meaning (get_or values place Itself)
