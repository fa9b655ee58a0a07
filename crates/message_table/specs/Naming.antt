-- Bytes found by their words.
use Rattle.std.specs.Prelude.{ℕ, List, Option, find, option_map}
use Rattle.std.specs.Str.{bytes_eq}
use Rattle.message_table.specs.WordSets.{NamedByte}

-- the byte of the first of these words that has a text
abbrev pub byte_of : List NamedByte → List ℕ → Option ℕ
byte_of words text = option_map (λ (w : NamedByte). w.code) (find (λ (w : NamedByte). bytes_eq w.text text) words)
