-- Texts of physical addresses, and of their digits (own).
use Rattle.std.specs.Prelude.{ℕ, ◌+◌, ◌-◌, ◌*◌, ◌%◌, ◌==◌, nat_lt, nat_le, Bool, ◌&&◌, ◌||◌, if◌then◌else◌, List, length, slice_index, Option, Some, None}
use Rattle.text_core.specs.declared.phys.Phys.{Phys}

-- a hex digit, lower case
abbrev pub is_hex_digit : ℕ → Bool
is_hex_digit b = (nat_le 48 b && nat_le b 57) || (nat_le 97 b && nat_le b 102)

-- what a hex digit counts; what is none counts as some digit
abbrev pub digit_value : ℕ → ℕ
digit_value b = (if nat_lt b 97 then b - 48 else b - 87) % 16

-- the address of four nibbles, the first uppermost
abbrev pub nibbles : ℕ → ℕ → ℕ → ℕ → Phys
nibbles a b c d = record { high = a * 16 + b; low = c * 16 + d }

-- a physical address: four hex digits with dots between them
abbrev pub has_dots : List ℕ → Bool
has_dots text = (slice_index text 1 == 46) && (slice_index text 3 == 46) && (slice_index text 5 == 46)

abbrev pub has_digits : List ℕ → Bool
has_digits text = is_hex_digit (slice_index text 0) && is_hex_digit (slice_index text 2) && is_hex_digit (slice_index text 4) && is_hex_digit (slice_index text 6)

abbrev pub is_phys : List ℕ → Bool
is_phys text = (length text == 7) && has_dots text && has_digits text

abbrev pub phys_at : List ℕ → Phys
phys_at text = record {
  high = digit_value (slice_index text 0) * 16 + digit_value (slice_index text 2);
  low = digit_value (slice_index text 4) * 16 + digit_value (slice_index text 6);
}

abbrev pub phys_of : List ℕ → Option Phys
phys_of text = if is_phys text then Some (phys_at text) else None
