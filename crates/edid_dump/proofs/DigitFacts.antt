-- Digits that are printed, read again.
use Rattle.std.proofs.Common.{◌≡◌, ℕ, ◌+◌, ◌*◌, ◌/◌, ◌%◌, ◌<◌, ◌==◌, true, false, nat_lt, if◌then◌else◌, List, [], ◌∷◌, ◌++◌, Option, Some, None, All, refl, sym, ap, ◌∙◌, append_assoc, arith}
use Rattle.std.specs.List.{flat_map}
use Rattle.std.specs.Char.{is_ascii_hexdigit}
use Rattle.std.proofs.lemmas.Bool.Decides.{nat_tests}
use Rattle.std.proofs.lemmas.List.Elements.{All-head, All-tail}
use Rattle.text_core.specs.Piece.{hex_text}
use Rattle.edid_dump.specs.declared.digits.Column.{Column}
use Rattle.edid_dump.specs.declared.digits.Column.TheVariants.{Absent, AfterGap, AfterBar, AfterAngle}
use Rattle.edid_dump.specs.Digits.{digit, is_blank, is_column, onto, pairs}
use Rattle.edid_dump.proofs.Pairing.{pairs_blank, pairs_pair}

-- the character of a digit
abbrev pub mark : ℕ → ℕ
mark n = if nat_lt n 10 then 48 + n else 87 + n

pub mark_hex : (n : ℕ) → n < 16 → is_ascii_hexdigit (mark n) ≡ true
mark_hex n h = grind (arith, nat_tests)

pub mark_digit : (n : ℕ) → n < 16 → digit (mark n) ≡ n
mark_digit n h = grind (arith, nat_tests)

pub mark_plain : (n : ℕ) → n < 16 → is_blank (mark n) ≡ false
mark_plain n h = grind (arith, nat_tests)

pub mark_other : (n c : ℕ) → n < 16 → c < 48 → (mark n == c) ≡ false
mark_other n c h k = grind (arith, nat_tests)

pub mark_angle : (n : ℕ) → n < 16 → (mark n == 62) ≡ false
mark_angle n h = grind (arith, nat_tests)

pub mark_bar : (n : ℕ) → n < 16 → (mark n == 124) ≡ false
mark_bar n h = grind (arith, nat_tests)

-- no column begins at a digit
pub mark_column : (c : Column) (n : ℕ) (xs : List ℕ) → n < 16 → is_column c (mark n ∷ xs) ≡ false
mark_column Absent n xs h = refl
mark_column AfterGap n xs h = let e : (mark n == 32) ≡ false = mark_other n 32 h (omega arith) in rw e refl
mark_column AfterBar n xs h = mark_bar n h
mark_column AfterAngle n xs h = mark_angle n h

halves : (b : ℕ) → b < 256 → (b / 16) * 16 + b % 16 ≡ b
halves b h = omega arith

-- a byte, and then the rest
pub pairs_byte : (c : Column) (b : ℕ) (rest : List ℕ) → b < 256 → pairs c (hex_text b ++ rest) ≡ onto b (pairs c rest)
pairs_byte c b rest h =
    let high : b / 16 < 16 = omega arith in
    let low : b % 16 < 16 = omega arith in
    let sum : digit (mark (b / 16)) * 16 + digit (mark (b % 16)) ≡ b =
    ap (λ n. n * 16 + digit (mark (b % 16))) (mark_digit (b / 16) high) ∙ ap (λ n. (b / 16) * 16 + n) (mark_digit (b % 16) low) ∙ halves b h in
    pairs_pair c (mark (b / 16)) (mark (b % 16)) rest (mark_column c (b / 16) (mark (b % 16) ∷ rest) high) (mark_plain (b / 16) high) (mark_hex (b / 16) high) (mark_hex (b % 16) low)
    ∙ ap (λ n. onto n (pairs c rest)) sum

-- a blank before a byte
pub pairs_gap : (c : Column) (b : ℕ) (rest : List ℕ) → b < 256 → pairs c (32 ∷ hex_text b ++ rest) ≡ onto b (pairs c rest)
pairs_gap c b rest h =
    let high : b / 16 < 16 = omega arith in
    pairs_blank c 32 (hex_text b ++ rest) (no_column c high) refl ∙ pairs_byte c b rest h
  where
    no_column : (c : Column) → b / 16 < 16 → is_column c (32 ∷ hex_text b ++ rest) ≡ false
    no_column Absent k = refl
    no_column AfterGap k = mark_other (b / 16) 32 k (omega arith)
    no_column AfterBar k = refl
    no_column AfterAngle k = refl

-- bytes one after another, and then the rest
abbrev pub joins : List ℕ → Option (List ℕ) → Option (List ℕ)
joins bytes None = None
joins bytes (Some next) = Some (bytes ++ next)

pub joins_none : (o : Option (List ℕ)) → joins [] o ≡ o
joins_none None = refl
joins_none (Some bytes) = refl

pub joins_byte : (b : ℕ) (bytes : List ℕ) (o : Option (List ℕ)) → onto b (joins bytes o) ≡ joins (b ∷ bytes) o
joins_byte b bytes None = refl
joins_byte b bytes (Some next) = refl

pub pairs_digits : (c : Column) (bytes rest : List ℕ) → All (λ b. b < 256) bytes → pairs c (flat_map hex_text bytes ++ rest) ≡ joins bytes (pairs c rest)
pairs_digits c [] rest h = sym (joins_none (pairs c rest))
pairs_digits c (b ∷ bytes) rest h =
    ap (pairs c) (append_assoc (hex_text b) (flat_map hex_text bytes) rest) ∙ pairs_byte c b (flat_map hex_text bytes ++ rest) (All-head (λ b. b < 256) b bytes h)
    ∙ ap (onto b) (pairs_digits c bytes rest (All-tail (λ b. b < 256) b bytes h)) ∙ joins_byte b bytes (pairs c rest)
