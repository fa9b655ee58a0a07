-- Bytes in hex.
use Rattle.std.proofs.Common.{◌≡◌, ℕ, zero, suc, ◌/◌, ◌<◌, ◌≤◌, true, nat_lt, List, [], ◌∷◌, length, Result, Ok, Err, MatchResult, ap, subst, arith, refl, sym, ◌∙◌}
use Rattle.std.proofs.lemmas.Grind.{common_steps}
use Rattle.std.proofs.lemmas.Bool.{and_parts, ltb-true}
use Rattle.hex.specs.Hex.{IsBytes, encode_lower, lower_digits, decode_sized}
use Rattle.hex.specs.declared.error.FromHexError.{FromHexError}
use Rattle.hex.proofs.HexLemmas.{length-encode_with, decode_sized-encode_lower}
use Rattle.edid_base.specs.Bytes.{are_bytes}
use Rattle.edid_text_lines.specs.Text.{hex_word}

pub are_bytes-is : (xs : List ℕ) → are_bytes xs ≡ true → IsBytes xs
are_bytes-is [] h i = omega arith
are_bytes-is (x ∷ xs) h zero = ltb-true _ _ (and_parts (nat_lt x 256) (are_bytes xs) h).0
are_bytes-is (x ∷ xs) h (suc i) = are_bytes-is xs (and_parts (nat_lt x 256) (are_bytes xs) h).1 i

pub hex_short : (bs digits : List ℕ) → hex_word bs ≡ digits → length digits < 2 → bs ≡ []
hex_short [] digits e h = refl
hex_short (b ∷ bs) digits e h = let len = ap length e in absurd (omega (arith, len, h, length-encode_with lower_digits (b ∷ bs)))

pub hex_long : (bs digits : List ℕ) → hex_word bs ≡ digits → length bs ≤ 128 → 256 < length digits → ⊥
hex_long [] digits e h g = let len = ap length e in omega (arith, len, g)
hex_long (b ∷ bs) digits e h g = let len = ap length e in omega (arith, len, h, g, length-encode_with lower_digits (b ∷ bs))

pub hex_some : (bs digits : List ℕ) → hex_word bs ≡ digits → 2 ≤ length digits → (encode_lower bs ≡ digits) × (length bs ≡ length digits / 2)
hex_some [] digits e h = let len = ap length e in absurd (omega (arith, len, h))
hex_some (b ∷ bs) digits e h = let len = ap length e in (e, omega (arith, len, length-encode_with lower_digits (b ∷ bs)))

pub decoded : (bs digits old new : List ℕ) (r : Result (Unit {0}) FromHexError) → hex_word bs ≡ digits → 2 ≤ length digits → are_bytes bs ≡ true → length old ≡ length digits / 2
    → MatchResult (decode_sized digits (length old)) (λ bytes. (r ≡ Ok tt) × (new ≡ bytes)) (λ e. r ≡ Err e) → (r ≡ Ok tt) × (new ≡ bs)
decoded bs digits old new r e h fit len m =
    let some = hex_some bs digits e h in
    let same : length bs ≡ length old = omega (arith, some.1, len) in
    let is : decode_sized digits (length old) ≡ Ok bs = ap (λ t. decode_sized t (length old)) (sym some.0) ∙ decode_sized-encode_lower bs (length old) same (are_bytes-is bs fit) in
    subst (λ d. MatchResult d (λ bytes. (r ≡ Ok tt) × (new ≡ bytes)) (λ e. r ≡ Err e)) is m

pub flags_len : (flags : ℕ) → length (encode_lower (flags ∷ [])) ≡ 2
flags_len flags = length-encode_with lower_digits (flags ∷ [])

pub flags_word : (flags : ℕ) → flags < 256 → are_bytes (flags ∷ []) ≡ true
flags_word flags h = grind (arith, common_steps)
