-- What holds of lines that a table describes: each value of a form's places has words that are read as it, by the same row (own).
use Rattle.std.specs.Prelude.{◌≡◌, ℕ, ◌^◌, ◌&&◌, ◌||◌, not, Bool, true, false, codes, List, [], ◌∷◌, ◌++◌, nat_lt, nat_le, Ok}
use Rattle.std.specs.Fmt.{decimal}
use Rattle.std.specs.List.{list_all}
use Rattle.std.specs.Str.{bytes_eq}
use Rattle.text_core.specs.Kind.{kind_word}
use Rattle.text_core.specs.Piece.{hex_text}
use Rattle.text_forms.specs.Forms.{Meaning, Place, is_itself, is_rest, line_of}
use Rattle.text_forms.specs.Limits.{last_byte, last_port, latest, most_ports}
use Rattle.text_forms.specs.Forms.Meaning.{Itself, Number, PortOf, PortsOf, Level, KindOf, Text, Words}
use Rattle.text_forms.specs.declared.form.Slot.{Slot}
use Rattle.text_forms.specs.declared.form.Slot.TheVariants as slots

-- ---- values and their words

-- a value that a place of one word can have
abbrev pub is_value_of : Slot → Meaning → Bool
is_value_of slots.Rest _ = false
is_value_of slots.Word Itself = true
is_value_of slots.Key Itself = true
is_value_of slots.Time (Number n) = nat_le n latest
is_value_of slots.LateTime (Number n) = nat_le n latest
is_value_of slots.Number (Number n) = nat_lt n (2 ^ 64)
is_value_of slots.Opcode (Number n) = nat_le n last_byte
is_value_of slots.Port (PortOf n) = nat_le n last_port
is_value_of slots.KeyPort (PortOf n) = nat_le n last_port
is_value_of slots.Ports (PortsOf n) = nat_le n most_ports
is_value_of slots.Level (Level is) = true
is_value_of slots.Switch (Level is) = true
is_value_of slots.Kind (KindOf kind) = true
is_value_of slots.Text (Text word) = true
is_value_of _ _ = false

unfoldable pub are_values_of : List Place → List Meaning → Bool
are_values_of [] [] = true
are_values_of [] (m ∷ ms) = false
are_values_of (p ∷ ps) [] = false
are_values_of (p ∷ ps) (m ∷ ms) = is_value_of p.0 m && are_values_of ps ms

abbrev pub level_word : Slot → Bool → List ℕ
level_word slots.Switch false = codes "off"
level_word slots.Switch true = codes "on"
level_word _ false = codes "0"
level_word _ true = codes "1"

abbrev pub number_word : Slot → ℕ → List ℕ
number_word slots.Opcode n = hex_text n
number_word _ n = decimal n

-- the word of a value
abbrev pub word_for : List ℕ → Slot → Meaning → List ℕ
word_for text slot Itself = text
word_for text slot (Number n) = number_word slot n
word_for text slot (PortOf n) = decimal n
word_for text slot (PortsOf n) = decimal n
word_for text slot (Level is) = level_word slot is
word_for text slot (KindOf kind) = kind_word kind
word_for text slot (Text word) = word
word_for text slot (Words words) = []

unfoldable pub words_for : List Place → List Meaning → List (List ℕ)
words_for [] ms = []
words_for (p ∷ ps) [] = []
words_for (p ∷ ps) (m ∷ ms) = word_for p.1 p.0 m ∷ words_for ps ms

-- ---- rows that no line has both of

abbrev pub differ : Place → Place → Bool
differ p q = is_itself p.0 && (is_itself q.0 && not (bytes_eq p.1 q.1))

unfoldable pub are_apart : List Place → List Place → Bool
are_apart [] [] = false
are_apart [] (q ∷ qs) = true
are_apart (p ∷ ps) [] = true
are_apart (p ∷ ps) (q ∷ qs) = differ p q || (not (is_rest p.0) && (not (is_rest q.0) && are_apart ps qs))

unfoldable pub all_apart : {V : Type 0} → List (V × List Place) → Bool
all_apart [] = true
all_apart (row ∷ others) = list_all (λ other. are_apart row.1 other.1) others && all_apart others

-- the words of a row's values are read as that row with those values
abbrev pub ReadsBack : Type 0 → Type 0
ReadsBack V = (before after : List (V × List Place)) (verb : V) (form : List Place) (ms : List Meaning) → all_apart (before ++ (verb, form) ∷ after) ≡ true
    → are_values_of form ms ≡ true → line_of (before ++ (verb, form) ∷ after) (words_for form ms) ≡ Ok (verb, ms)
