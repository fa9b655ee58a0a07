-- The word of what a device from outside holds (own): `-`, or one to four different logical addresses, as `4` and `1+4`.
use Rattle.std.specs.Prelude.{ℕ, ◌==◌, ◌&&◌, not, nat_lt, nat_le, Bool, false, codes, List, [], ◌∷◌, length, slice_index, if◌then◌else◌, Option, Some, None}
use Rattle.std.specs.List.{list_any}
use Rattle.std.specs.Str.{bytes_eq}
use Rattle.text_core.specs.Phys.{digit_value, is_hex_digit}
use Rattle.device_core.specs.declared.outside.Act.{Act}
use Rattle.device_core.specs.declared.outside.Act.TheVariants.{Hold}

-- a logical address below 15: 0 to e
abbrev pub is_address : ℕ → Bool
is_address byte = is_hex_digit byte && nat_lt byte 102

-- addresses with a plus between, none of which stands twice
abbrev pub are_addresses : List ℕ → Bool
are_addresses [] = false
are_addresses (digit ∷ []) = is_address digit
are_addresses (digit ∷ plus ∷ rest) = is_address digit && ((plus == 43) && (not (list_any (λ other. other == digit) rest) && are_addresses rest))

-- the address at a place, where the word is so long
abbrev pub address_at : List ℕ → ℕ → Option ℕ
address_at word place = if nat_lt place (length word) then Some (digit_value (slice_index word place)) else None

-- no address is held as 15
abbrev pub hold_of : List ℕ → Option Act
hold_of word =
    if bytes_eq word (codes "-") then Some (Hold 15 None (record { third = None; fourth = None }))
    else if nat_le (length word) 7 && are_addresses word
    then Some (Hold (digit_value (slice_index word 0)) (address_at word 2) (record { third = address_at word 4; fourth = address_at word 6 }))
    else None
