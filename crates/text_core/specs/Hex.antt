-- Hex numbers (own): two lower-case digits a byte. A reader takes any text, and what is no digit counts as some digit.
use Rattle.std.specs.Prelude.{ℕ, ◌+◌, ◌*◌, ◌&&◌, if◌then◌else◌, List, [], ◌∷◌, slice_index, Option, Some, None}
use Rattle.text_core.specs.Phys.{digit_value, is_hex_digit}

-- the byte whose two hex digits stand at these places
abbrev pub hex_at : List ℕ → ℕ → ℕ → ℕ
hex_at text high low = digit_value (slice_index text high) * 16 + digit_value (slice_index text low)

-- the byte of two hex digits in lower case
abbrev pub hex_byte : List ℕ → Option ℕ
hex_byte [] = None
hex_byte (a ∷ []) = None
hex_byte (a ∷ b ∷ []) = if is_hex_digit a && is_hex_digit b then Some (digit_value a * 16 + digit_value b) else None
hex_byte (a ∷ b ∷ c ∷ more) = None

-- bytes, two hex digits each
abbrev pub hex_bytes : List ℕ → List ℕ
hex_bytes [] = []
hex_bytes (x ∷ []) = []
hex_bytes (x ∷ y ∷ more) = (digit_value x * 16 + digit_value y) ∷ hex_bytes more
