-- The line that an object is of, read back from the object (own; strings: RFC 8259, section 7).
use Rattle.std.specs.Prelude.{◌≡◌, ℕ, ◌+◌, ◌-◌, ◌*◌, ◌==◌, nat_lt, if◌then◌else◌, List, [], ◌∷◌, ◌++◌, drop, codes}
use Rattle.record_core.specs.Cells.{PlainCell}
use Rattle.record_core.specs.Records.{line_of, object_of}

-- what a lower-case hex digit counts
abbrev pub digit : ℕ → ℕ
digit b = if nat_lt b 58 then b - 48 else b - 87

-- where a reader of a string stands: at a character, after a backslash, or before so many digits of a number
pub data StringState : Type 0 where
  Char : StringState
  Escape : StringState
  First : StringState
  Second : StringState
  High : StringState
  Low : ℕ → StringState

-- the characters of a string up to its closing quote
abbrev pub string_from : StringState → List ℕ → List ℕ
string_from place [] = []
string_from Char (b ∷ rest) = if b == 34 then [] else if b == 92 then string_from Escape rest else b ∷ string_from Char rest
string_from Escape (b ∷ rest) = if b == 117 then string_from First rest else b ∷ string_from Char rest
string_from First (b ∷ rest) = string_from Second rest
string_from Second (b ∷ rest) = string_from High rest
string_from High (b ∷ rest) = string_from (Low (digit b)) rest
string_from (Low high) (b ∷ rest) = (high * 16 + digit b) ∷ string_from Char rest

-- the line in an object: what stands after `{"line":"`
abbrev pub line_in : List ℕ → List ℕ
line_in object = string_from Char (drop 9 object) ++ codes "\n"

-- each line, of whatever kind, is read back from its object
abbrev pub LinesAreReadBack : Type 0
LinesAreReadBack = (kind : List ℕ) (cells : List PlainCell) → line_in (object_of kind cells) ≡ line_of cells

-- so two lines with one object are one line
abbrev pub OneLineAnObject : Type 0
OneLineAnObject = (kind other : List ℕ) (cells others : List PlainCell) → object_of kind cells ≡ object_of other others → line_of cells ≡ line_of others
