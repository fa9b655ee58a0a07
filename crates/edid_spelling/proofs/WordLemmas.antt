-- What the words of a descriptor add to what was read, and bits of no words.
use Rattle.std.proofs.Common.{◌≡◌, ℕ, ◌+◌, ◌*◌, ◌/◌, ◌<◌, nat_le, false, List, [], ◌∷◌, ◌++◌, length, Result, Ok, Err, refl, ◌∙◌, ap, cond, arith}
use Rattle.std.proofs.lemmas.Bool.Decides.{nat_tests}
use Rattle.edid_spelling.specs.Rows.{Row, bits_of, first_of, others_of}
use Rattle.edid_spelling.specs.Audio.{descriptor_of}

-- the number of a descriptor's word in the line, after these bytes
abbrev pub word_after : List ℕ → ℕ → ℕ
word_after before word = length before / 3 * 4 + 1 + word

abbrev pub onward : List ℕ → Result (List ℕ) ℕ → (List ℕ → Result (List ℕ) ℕ) → Result (List ℕ) ℕ
onward before (Err word) on = Err (word_after before word)
onward before (Ok bytes) on = on (before ++ bytes)

abbrev pub within : List ℕ → Result (List ℕ) ℕ → (List ℕ → Result (List ℕ) ℕ) → Result (List ℕ) ℕ
within before descriptor on = cond (nat_le 30 (length before)) (Err (word_after before 0)) (onward before descriptor on)

-- the bytes of these words after those before
abbrev pub descriptors_after : List ℕ → List (List ℕ) → Result (List ℕ) ℕ
descriptors_after before [] = Ok before
descriptors_after before (f ∷ []) = within before (descriptor_of f [] [] []) (λ next. Ok next)
descriptors_after before (f ∷ c ∷ []) = within before (descriptor_of f c [] []) (λ next. Ok next)
descriptors_after before (f ∷ c ∷ r ∷ []) = within before (descriptor_of f c r []) (λ next. Ok next)
descriptors_after before (f ∷ c ∷ r ∷ t ∷ more) = within before (descriptor_of f c r t) (λ next. descriptors_after next more)

-- no words are no bits
pub bits_none : (rows : List Row) (number : ℕ) → Ok 0 ≡ bits_of rows number []
bits_none [] number = refl
bits_none (r ∷ rows) number = refl

-- four words, of which some may be missing
four : (before f : List ℕ) (w : List (List ℕ))
    → descriptors_after before (f ∷ w) ≡ within before (descriptor_of f (first_of w) (first_of (others_of w)) (first_of (others_of (others_of w)))) (λ next. descriptors_after next (others_of (others_of (others_of w))))
four before f [] = refl
four before f (c ∷ []) = refl
four before f (c ∷ r ∷ []) = refl
four before f (c ∷ r ∷ t ∷ more) = refl

-- the words that were read, and those that are left
pub record IsFour (words : List (List ℕ)) (f c r t : List ℕ) (rest : List (List ℕ)) : Type 0 where
  pub w1 : List (List ℕ)
  pub w2 : List (List ℕ)
  pub w3 : List (List ℕ)
  pub first : words ≡ f ∷ w1
  pub second : c ≡ first_of w1
  pub after_second : w2 ≡ others_of w1
  pub third : r ≡ first_of w2
  pub after_third : w3 ≡ others_of w2
  pub fourth : t ≡ first_of w3
  pub after_fourth : rest ≡ others_of w3

descriptor_same : (f c r t : List ℕ) (w1 w2 w3 : List (List ℕ)) → c ≡ first_of w1 → w2 ≡ others_of w1 → r ≡ first_of w2 → w3 ≡ others_of w2 → t ≡ first_of w3
    → descriptor_of f (first_of w1) (first_of (others_of w1)) (first_of (others_of (others_of w1))) ≡ descriptor_of f c r t
descriptor_same f c r t w1 w2 w3 ec e2 er e3 et = rw (ec, er, et, e3, e2) refl

rest_same : (w1 w2 w3 w4 : List (List ℕ)) → w2 ≡ others_of w1 → w3 ≡ others_of w2 → w4 ≡ others_of w3 → others_of (others_of (others_of w1)) ≡ w4
rest_same w1 w2 w3 w4 e2 e3 e4 = rw (e4, e3, e2) refl

pub four_read : (before : List ℕ) (words : List (List ℕ)) (f c r t : List ℕ) (rest : List (List ℕ)) → IsFour words f c r t rest
    → descriptors_after before words ≡ within before (descriptor_of f c r t) (λ next. descriptors_after next rest)
four_read before words f c r t rest i =
    ap (descriptors_after before) i.first
    ∙ (four before f i.w1
    ∙ (ap (λ d. within before d (λ next. descriptors_after next (others_of (others_of (others_of i.w1))))) (descriptor_same f c r t i.w1 i.w2 i.w3 i.second i.after_second i.third i.after_third i.fourth)
    ∙ ap (λ w. within before (descriptor_of f c r t) (λ next. descriptors_after next w)) (rest_same i.w1 i.w2 i.w3 rest i.after_second i.after_third i.after_fourth)))

pub descriptor_read : (before bytes : List ℕ) (words : List (List ℕ)) (f c r t : List ℕ) (rest : List (List ℕ)) → IsFour words f c r t rest → length before < 30
    → descriptor_of f c r t ≡ Ok bytes → descriptors_after before words ≡ descriptors_after (before ++ bytes) rest
descriptor_read before bytes words f c r t rest i few d =
    let e : nat_le 30 (length before) ≡ false = grind (arith, nat_tests) in
    four_read before words f c r t rest i
    ∙ (ap (λ v. cond v (Err (word_after before 0)) (onward before (descriptor_of f c r t) (λ next. descriptors_after next rest))) e
    ∙ ap (λ o. onward before o (λ next. descriptors_after next rest)) d)
