-- The bytes that a reader keeps of those that it has read.
use Rattle.std.specs.Prelude.{◌≡◌, ℕ, ◌<◌, ◌↔◌, List, [], ◌∷◌, ◌++◌, length, take, Option, Some, None, IsTrue}
use Rattle.message_hex.specs.declared.bytes.LineBytes.{LineBytes}

-- the first sixteen of all, and whether there are more
pub record AreBytes (bytes : LineBytes) (all : List ℕ) : Type 0 where
  pub first : bytes.first.items ≡ take 16 all
  pub long : IsTrue bytes.is_long ↔ (16 < length all)

-- the same with one more, if there is one
abbrev pub AreKept : Option ℕ → List ℕ → LineBytes → Type 0
AreKept None all bytes = AreBytes bytes all
AreKept (Some byte) all bytes = AreBytes bytes (all ++ byte ∷ [])
