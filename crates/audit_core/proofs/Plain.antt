-- Texts without a line feed.
use Rattle.std.proofs.Common.{◌≡◌, ◌≢◌, ℕ, zero, suc, ◌+◌, ◌/◌, ◌%◌, ◌==◌, ◌&&◌, Bool, true, false, not, nat_lt, if◌then◌else◌, List, [], ◌∷◌, ◌++◌, codes, refl, sym, ◌∙◌, arith}
use Rattle.std.specs.Fmt.{decimal, digit_glyph, digits, digits_onto}
use Rattle.std.specs.List.{list_all}
use Rattle.std.proofs.lemmas.Bool.{false≢true}
use Rattle.std.proofs.lemmas.Bool.Decides.{nat_tests}
use Rattle.text_core.specs.declared.phys.Phys.{Phys}
use Rattle.text_core.specs.Piece.{hex_text, nibble_text, phys_text}
use Rattle.audit_core.specs.Kept.{IsPlain}

-- ---- without a line feed

pub plain_more : (xs ys : List ℕ) → IsPlain xs → IsPlain ys → IsPlain (xs ++ ys)
plain_more [] ys h k = k
plain_more (c ∷ cs) ys h k = (h.0, plain_more cs ys h.1 k)

-- a text that is written out
pub plain_codes : (xs : List ℕ) → list_all (λ c. not (c == 10)) xs ≡ true → IsPlain xs
plain_codes [] h = tt
plain_codes (c ∷ cs) h = by (c == 10) refl h (plain_codes cs)
  where
    by : (b : Bool) → (c == 10) ≡ b → (not b && list_all (λ c. not (c == 10)) cs) ≡ true → (list_all (λ c. not (c == 10)) cs ≡ true → IsPlain cs) → IsPlain (c ∷ cs)
    by true e k more = absurd (false≢true k)
    by false e k more = ((λ p. (let q : (c == 10) ≡ true = grind (arith, nat_tests) in false≢true (sym e ∙ q))), more k)

-- digits
pub plain_glyph : (n : ℕ) → (if nat_lt n 10 then 48 + n else 87 + n) ≢ 10
plain_glyph n = by (nat_lt n 10)
  where
    by : (b : Bool) → (if b then 48 + n else 87 + n) ≢ 10
    by true = λ p. absurd (omega arith)
    by false = λ p. absurd (omega arith)

pub plain_onto : (k n : ℕ) (acc : List ℕ) → IsPlain acc → IsPlain (digits_onto k 10 false n acc)
plain_onto zero n acc h = h
plain_onto (suc k) n acc h = by (n / 10 == 0) (plain_onto k (n / 10) (digit_glyph false (n % 10) ∷ acc) (plain_glyph (n % 10), h))
  where
    by : (b : Bool) → IsPlain (digits_onto k 10 false (n / 10) (digit_glyph false (n % 10) ∷ acc)) → IsPlain (if b then digit_glyph false (n % 10) ∷ acc else digits_onto k 10 false (n / 10) (digit_glyph false (n % 10) ∷ acc))
    by true more = (plain_glyph (n % 10), h)
    by false more = more

pub plain_decimal : (n : ℕ) → IsPlain (decimal n)
unfolding digits
plain_decimal n = plain_onto 64 n [] tt

pub plain_nibble : (n : ℕ) → IsPlain (nibble_text n)
plain_nibble n = (plain_glyph n, tt)

pub plain_hex : (n : ℕ) → IsPlain (hex_text n)
plain_hex n = (plain_glyph (n / 16), (plain_glyph (n % 16), tt))

dot : IsPlain (codes ".")
dot = plain_codes (codes ".") refl

pub plain_phys : (p : Phys) → IsPlain (phys_text p)
plain_phys p = (plain_glyph (p.high / 16), (dot.0, (plain_glyph (p.high % 16), (dot.0, (plain_glyph (p.low / 16), (dot.0, (plain_glyph (p.low % 16), tt)))))))
