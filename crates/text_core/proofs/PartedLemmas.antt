use Rattle.std.proofs.Common.{◌≡◌, ℕ, ◌<◌, List, [], ◌∷◌, length, None, ◌==◌, sym, refl, arith}
use Rattle.std.proofs.lemmas.List.Splits.{length-slice_split}
use Rattle.text_core.specs.Words.{words_of, one_of, two_of, three_of}

-- a line has a word
pub words_of-some : (line : List ℕ) → 0 < length (words_of line)
words_of-some line = omega (arith, length-slice_split (λ b. b == 32) line)

pub one_of-more : (a : List ℕ) (words : List (List ℕ)) → 0 < length words → one_of (a ∷ words) ≡ None
one_of-more a [] h = absurd (omega arith)
one_of-more a (b ∷ words) h = refl

pub two_of-more : (a b : List ℕ) (words : List (List ℕ)) → 0 < length words → two_of (a ∷ b ∷ words) ≡ None
two_of-more a b [] h = absurd (omega arith)
two_of-more a b (c ∷ words) h = refl

pub three_of-more : (a b c : List ℕ) (words : List (List ℕ)) → 0 < length words → three_of (a ∷ b ∷ c ∷ words) ≡ None
three_of-more a b c [] h = absurd (omega arith)
three_of-more a b c (d ∷ words) h = refl

-- a line of more words
pub one_of-past : (line rest a : List ℕ) → words_of line ≡ a ∷ words_of rest → None ≡ one_of (words_of line)
one_of-past line rest a e = rw e (sym (one_of-more a (words_of rest) (words_of-some rest)))

pub two_of-past : (line r1 r2 a b : List ℕ) → words_of line ≡ a ∷ words_of r1 → words_of r1 ≡ b ∷ words_of r2 → None ≡ two_of (words_of line)
two_of-past line r1 r2 a b e1 e2 = rw (e1, e2) (sym (two_of-more a b (words_of r2) (words_of-some r2)))

pub three_of-past : (line r1 r2 r3 a b c : List ℕ) → words_of line ≡ a ∷ words_of r1 → words_of r1 ≡ b ∷ words_of r2 → words_of r2 ≡ c ∷ words_of r3 → None ≡ three_of (words_of line)
three_of-past line r1 r2 r3 a b c e1 e2 e3 = rw (e1, e2, e3) (sym (three_of-more a b c (words_of r3) (words_of-some r3)))
