-- What a field says, and where it is reserved (own).
use Rattle.std.specs.Prelude.{ℕ, ◌-◌, ◌&&◌, nat_le, Bool, true, false, not, if◌then◌else◌, Option, Some, None, List, [], ◌∷◌, codes, length}
use Rattle.std.specs.List.{list_all, list_any}
use Rattle.std.specs.Str.{bytes_eq}
use Rattle.edid_fields.specs.Fields.{fields_of}
use Rattle.edid_fields.specs.Forms.{Code, Field, Part}
use Rattle.edid_fields.specs.declared.walking.Place.{Place}

-- the first code that a value has
unfoldable pub code_of : List Code → ℕ → Option Code
code_of [] v = None
code_of (c ∷ more) v = if nat_le c.0 v && nat_le v c.1 then Some c else code_of more v

abbrev pub is_none : Option Code → Bool
is_none None = true
is_none (Some c) = false

-- a value of no code is reserved
abbrev pub is_reserved : Field → Bool
is_reserved f = is_none (code_of f.row.2 f.value)

abbrev pub text_of : Option Code → List ℕ
text_of None = codes "reserved"
text_of (Some c) = c.2

-- the word of a field
abbrev pub word_of : Field → List ℕ
word_of f = text_of (code_of f.row.2 f.value)

-- no code is told by the word for a reserved value
abbrev pub are_words : List Code → Bool
are_words list = list_all (λ c. not (bytes_eq c.2 (codes "reserved"))) list

-- how many bytes a block has too few, and how many are left over
abbrev pub cut_of : List ℕ → Place → ℕ
cut_of p end = end.need - length p

abbrev pub left_of : List ℕ → Place → ℕ
left_of p end = length p - end.at

-- ---- of a whole block

-- some field has a reserved value
abbrev pub some_reserved : List Part → List ℕ → Bool
some_reserved table p = list_any is_reserved (fields_of table p)
