-- The bytes of a frame in hex, as tools print them (own): two digits of either case each, with `0x` before them or not, and
-- between bytes spaces, colons, commas and hyphens. What stands before the last `>>` or `<<` is passed over.
use Rattle.std.specs.Prelude.{ℕ, ◌*◌, ◌+◌, ◌-◌, ◌%◌, ◌==◌, ◌||◌, ◌&&◌, nat_le, Bool, if◌then◌else◌, List, [], ◌∷◌, length, Option, Some, None, Result, Ok, Err}
use Rattle.message_hex.specs.declared.bytes.DisCause.{DisCause}
use Rattle.message_hex.specs.declared.bytes.DisCause.TheVariants.{Digit, Half, Length}
use Rattle.message_hex.specs.declared.bytes.HexState.{HexState}
use Rattle.message_hex.specs.declared.bytes.HexState.TheVariants.{Between, High, Prefix, HighAfterPrefix}

-- what may stand between bytes
abbrev pub is_mark : ℕ → Bool
is_mark c = (c == 32) || ((c == 58) || ((c == 44) || (c == 45)))

-- 0 to 9, A to F, a to f
abbrev pub is_digit : ℕ → Bool
is_digit c = (nat_le 48 c && nat_le c 57) || ((nat_le 65 c && nat_le c 70) || (nat_le 97 c && nat_le c 102))

-- `0x` or `0X`
abbrev pub is_prefix : ℕ → ℕ → Bool
is_prefix first second = (first == 48) && ((second == 120) || (second == 88))

-- what a digit counts
abbrev pub value_of : ℕ → ℕ
value_of c = (if nat_le c 57 then c - 48 else (if nat_le c 70 then c - 55 else c - 87)) % 16

abbrev pub byte_of : ℕ → ℕ → ℕ
byte_of high low = value_of high * 16 + value_of low

-- a digit is alone: before a mark it is half a byte, else the character is at fault
abbrev pub cause_of_half : ℕ → DisCause
cause_of_half c = if is_mark c then Half else Digit

-- where a line stands after one more character, and the byte that it ends
abbrev pub step : HexState → ℕ → Result (HexState × Option ℕ) DisCause
step Between c = if is_mark c then Ok (Between, None) else (if is_digit c then Ok (High c, None) else Err Digit)
step (High high) c = if is_digit c then Ok (Between, Some (byte_of high c)) else (if is_prefix high c then Ok (Prefix, None) else Err (cause_of_half c))
step Prefix c = if is_digit c then Ok (HighAfterPrefix c, None) else Err (cause_of_half c)
step (HighAfterPrefix high) c = if is_digit c then Ok (Between, Some (byte_of high c)) else Err (cause_of_half c)

-- the end of a line
abbrev pub bytes_at_end : HexState → Result (List ℕ) DisCause
bytes_at_end Between = Ok []
bytes_at_end (High high) = Err Half
bytes_at_end Prefix = Err Half
bytes_at_end (HighAfterPrefix high) = Err Half

-- a byte before others
abbrev pub with_byte : Option ℕ → Result (List ℕ) DisCause → Result (List ℕ) DisCause
with_byte None bytes = bytes
with_byte (Some byte) (Ok bytes) = Ok (byte ∷ bytes)
with_byte (Some byte) (Err cause) = Err cause

abbrev pub with_step : Result (HexState × Option ℕ) DisCause → (HexState → Result (List ℕ) DisCause) → Result (List ℕ) DisCause
with_step (Ok next) rest = with_byte next.1 (rest next.0)
with_step (Err cause) rest = Err cause

-- the bytes that the rest of a line spells
abbrev pub bytes_from : HexState → List ℕ → Result (List ℕ) DisCause
bytes_from place [] = bytes_at_end place
bytes_from place (c ∷ cs) = with_step (step place c) (λ next. bytes_from next cs)

-- a frame has 1 to 16 bytes
abbrev pub whole_frame : Result (List ℕ) DisCause → Result (List ℕ) DisCause
whole_frame (Ok bytes) = if nat_le 1 (length bytes) && nat_le (length bytes) 16 then Ok bytes else Err Length
whole_frame (Err cause) = Err cause

-- `>>` or `<<`
abbrev pub is_arrow : ℕ → ℕ → Bool
is_arrow first second = ((first == 62) || (first == 60)) && (second == first)

-- what stands after the last arrow of the rest, and `best` where it has none
abbrev pub after_arrow_of : List ℕ → List ℕ → List ℕ
after_arrow_of best [] = best
after_arrow_of best (a ∷ []) = best
after_arrow_of best (a ∷ b ∷ rest) = after_arrow_of (if is_arrow a b then rest else best) (b ∷ rest)

abbrev pub after_arrow : List ℕ → List ℕ
after_arrow line = after_arrow_of line line

-- the bytes of the frame of a line, or why it has none
abbrev pub frame_in : List ℕ → Result (List ℕ) DisCause
frame_in line = whole_frame (bytes_from Between (after_arrow line))
