-- The line of an object is read back from it.
use Rattle.std.proofs.Common.{◌≡◌, ℕ, ◌+◌, ◌*◌, ◌/◌, ◌%◌, ◌==◌, ◌&&◌, ◌||◌, Bool, true, false, nat_lt, nat_le, cond, codes, List, [], ◌∷◌, ◌++◌, append_assoc, refl, sym, ap, subst, ◌∙◌, arith}
use Rattle.std.proofs.lemmas.Bool.{eqb-true}
use Rattle.std.proofs.lemmas.Bool.Decides.{nat_tests}
use Rattle.std.specs.List.{flat_map}
use Rattle.record_core.specs.Records.{said}
use Rattle.record_core.specs.ReadBack.{LinesAreReadBack, OneLineAnObject, digit, line_in, string_from}
use Rattle.record_core.specs.ReadBack.StringState.{Char}
use Rattle.record_core.specs.Strings.{char_text}

digit_again : (n : ℕ) → digit (cond (nat_lt n 10) (48 + n) (87 + n)) ≡ n
digit_again n = grind (arith, nat_tests)

byte_again : (b high low : ℕ) → high ≡ b / 16 → low ≡ b % 16 → high * 16 + low ≡ b
byte_again b high low e f = omega (arith, e, f)

hex_again : (b : ℕ) → digit (cond (nat_lt (b / 16) 10) (48 + b / 16) (87 + b / 16)) * 16 + digit (cond (nat_lt (b % 16) 10) (48 + b % 16) (87 + b % 16)) ≡ b
hex_again b = byte_again b _ _ (digit_again (b / 16)) (digit_again (b % 16))

-- a character
char_by : (p q r : Bool) (b : ℕ) (rest : List ℕ) → (b == 34) ≡ p → (b == 92) ≡ q → ((nat_le 32 b && nat_le b 126) || nat_le 128 b) ≡ r
    → string_from Char (char_text b ++ rest) ≡ b ∷ string_from Char rest
char_by true q r b rest e f g =
    subst (λ (n : ℕ). string_from Char (char_text n ++ rest) ≡ n ∷ string_from Char rest) (sym (eqb-true b 34 e)) refl
char_by false true r b rest e f g =
    subst (λ (n : ℕ). string_from Char (char_text n ++ rest) ≡ n ∷ string_from Char rest) (sym (eqb-true b 92 f)) refl
char_by false false true b rest e f g = rw (e, f, g, e, f) refl
char_by false false false b rest e f g = rw (e, f, g) (ap (λ (n : ℕ). n ∷ string_from Char rest) (hex_again b))

char_read : (b : ℕ) (rest : List ℕ) → string_from Char (char_text b ++ rest) ≡ b ∷ string_from Char rest
char_read b rest = char_by (b == 34) (b == 92) ((nat_le 32 b && nat_le b 126) || nat_le 128 b) b rest refl refl refl

-- a string
string_read : (line rest : List ℕ) → string_from Char (flat_map char_text line ++ 34 ∷ rest) ≡ line
string_read [] rest = refl
string_read (b ∷ line) rest =
    ap (string_from Char) (append_assoc (char_text b) (flat_map char_text line) (34 ∷ rest))
    ∙ char_read b (flat_map char_text line ++ 34 ∷ rest)
    ∙ ap (λ (l : List ℕ). b ∷ l) (string_read line rest)

pub read_back : LinesAreReadBack
read_back = λ kind cells. ap (λ (t : List ℕ). t ++ codes "\n") (string_read (said cells) _)

pub one_line : OneLineAnObject
one_line = λ kind other cells others e. sym (read_back kind cells) ∙ ap line_in e ∙ read_back other others
