-- Texts of physical addresses: what is read is written again.
use Rattle.std.proofs.Common.{◌≡◌, ℕ, ◌+◌, ◌*◌, ◌/◌, ◌%◌, ◌<◌, ◌==◌, ◌&&◌, Bool, true, false, cond, codes, List, [], ◌∷◌, ◌++◌, length, nat_lt, refl, ap, ◌∙◌, arith}
use Rattle.std.proofs.lemmas.Bool.{eqb-true}
use Rattle.std.proofs.lemmas.Bool.Decides.{nat_tests}
use Rattle.text_core.specs.Piece.{nibble_text, phys_text}
use Rattle.text_core.specs.Phys.{digit_value, has_digits, has_dots, is_hex_digit, phys_at}

and_left : (a b : Bool) → (a && b) ≡ true → a ≡ true
and_left true b e = refl
and_left false b e = cc

and_right : (a b : Bool) → (a && b) ≡ true → b ≡ true
and_right true b e = e
and_right false b e = cc

digit_again : (b : ℕ) → is_hex_digit b ≡ true → nibble_text (digit_value b) ≡ b ∷ []
digit_again b h = let same : cond (nat_lt (digit_value b) 10) (48 + digit_value b) (87 + digit_value b) ≡ b = grind (arith, nat_tests) in ap (λ n. n ∷ []) same

digit_small : (b : ℕ) → is_hex_digit b ≡ true → digit_value b < 16
digit_small b h = grind (arith, nat_tests)

high_again : (a b : ℕ) → is_hex_digit a ≡ true → is_hex_digit b ≡ true → nibble_text ((digit_value a * 16 + digit_value b) / 16) ≡ a ∷ []
high_again a b h g =
    let s : digit_value b < 16 = digit_small b g in
    let e : (digit_value a * 16 + digit_value b) / 16 ≡ digit_value a = omega arith in
    ap nibble_text e ∙ digit_again a h

low_again : (a b : ℕ) → is_hex_digit a ≡ true → is_hex_digit b ≡ true → nibble_text ((digit_value a * 16 + digit_value b) % 16) ≡ b ∷ []
low_again a b h g =
    let s : digit_value b < 16 = digit_small b g in
    let e : (digit_value a * 16 + digit_value b) % 16 ≡ digit_value b = omega arith in
    ap nibble_text e ∙ digit_again b g

-- four digits with dots
abbrev dotted : List ℕ → List ℕ → List ℕ → List ℕ → List ℕ
dotted a b c d = a ++ codes "." ++ b ++ codes "." ++ c ++ codes "." ++ d

dotted_same : (a b c d w x y z : List ℕ) → a ≡ w → b ≡ x → c ≡ y → d ≡ z → dotted a b c d ≡ dotted w x y z
dotted_same a b c d w x y z e f g h = cc

phys_again : (a p b q c r d : ℕ) → is_hex_digit a ≡ true → is_hex_digit b ≡ true → is_hex_digit c ≡ true → is_hex_digit d ≡ true → p ≡ 46 → q ≡ 46 → r ≡ 46
    → phys_text (phys_at (a ∷ p ∷ b ∷ q ∷ c ∷ r ∷ d ∷ [])) ≡ a ∷ p ∷ b ∷ q ∷ c ∷ r ∷ d ∷ []
phys_again a p b q c r d ha hb hc hd hp hq hr =
    let digits : phys_text (phys_at (a ∷ p ∷ b ∷ q ∷ c ∷ r ∷ d ∷ [])) ≡ a ∷ 46 ∷ b ∷ 46 ∷ c ∷ 46 ∷ d ∷ [] =
    dotted_same (nibble_text ((digit_value a * 16 + digit_value b) / 16)) (nibble_text ((digit_value a * 16 + digit_value b) % 16))
    (nibble_text ((digit_value c * 16 + digit_value d) / 16)) (nibble_text ((digit_value c * 16 + digit_value d) % 16))
    (a ∷ []) (b ∷ []) (c ∷ []) (d ∷ []) (high_again a b ha hb) (low_again a b ha hb) (high_again c d hc hd) (low_again c d hc hd) in
    let dots : a ∷ 46 ∷ b ∷ 46 ∷ c ∷ 46 ∷ d ∷ [] ≡ a ∷ p ∷ b ∷ q ∷ c ∷ r ∷ d ∷ [] = cc in
    digits ∙ dots

pub phys_text-phys_at : (text : List ℕ) → length text ≡ 7 → has_dots text ≡ true → has_digits text ≡ true → phys_text (phys_at text) ≡ text
phys_text-phys_at [] long dots digits = absurd (omega arith)
phys_text-phys_at (a ∷ []) long dots digits = absurd (omega arith)
phys_text-phys_at (a ∷ p ∷ []) long dots digits = absurd (omega arith)
phys_text-phys_at (a ∷ p ∷ b ∷ []) long dots digits = absurd (omega arith)
phys_text-phys_at (a ∷ p ∷ b ∷ q ∷ []) long dots digits = absurd (omega arith)
phys_text-phys_at (a ∷ p ∷ b ∷ q ∷ c ∷ []) long dots digits = absurd (omega arith)
phys_text-phys_at (a ∷ p ∷ b ∷ q ∷ c ∷ r ∷ []) long dots digits = absurd (omega arith)
phys_text-phys_at (a ∷ p ∷ b ∷ q ∷ c ∷ r ∷ d ∷ []) long dots digits =
    let d1 = and_left ((p == 46) && (q == 46)) (r == 46) dots in
    let n3 = and_left (is_hex_digit a && is_hex_digit b && is_hex_digit c) (is_hex_digit d) digits in
    let n2 = and_left (is_hex_digit a && is_hex_digit b) (is_hex_digit c) n3 in
    phys_again a p b q c r d (and_left (is_hex_digit a) (is_hex_digit b) n2) (and_right (is_hex_digit a) (is_hex_digit b) n2)
    (and_right (is_hex_digit a && is_hex_digit b) (is_hex_digit c) n3) (and_right (is_hex_digit a && is_hex_digit b && is_hex_digit c) (is_hex_digit d) digits)
    (eqb-true p 46 (and_left (p == 46) (q == 46) d1)) (eqb-true q 46 (and_right (p == 46) (q == 46) d1)) (eqb-true r 46 (and_right ((p == 46) && (q == 46)) (r == 46) dots))
phys_text-phys_at (a ∷ p ∷ b ∷ q ∷ c ∷ r ∷ d ∷ e ∷ more) long dots digits = absurd (omega arith)
