-- The bits of the words of a speaker line.
use Rattle.std.proofs.Common.{◌≡◌, ℕ, ◌+◌, ◌*◌, ◌/◌, ◌%◌, ◌^◌, ◌<◌, ◌≤◌, ◌==◌, ◌&&◌, nat_lt, Bool, true, false, cond, max, List, [], ◌∷◌, Result, Ok, Err, refl, sym, ◌∙◌, ap, subst, arith}
use Rattle.std.specs.Int.{bit_at}
use Rattle.std.specs.Int.Bits.{bit_or}
use Rattle.std.specs.Str.{bytes_eq}
use Rattle.std.proofs.lemmas.Bool.Decides.{nat_tests}
use Rattle.std.proofs.lemmas.Nat.{or_lt}
use Rattle.std.proofs.lemmas.Nat.Bits.{bit_at_or, bit_at-pow_same, bit_at-pow_other, bit_at-zero}
use Rattle.std.proofs.lemmas.Slice.Eq.{bytes_eq-Decides}
use Rattle.edid_spelling.specs.Rows.{Row, bits_of, with_bit}
use Rattle.edid_spelling.specs.Speakers.{speaker_rows, speakers_of, three_bytes}
use Rattle.meaning_cta.specs.Speakers.{speaker_bits}
use Rattle.edid_laws.specs.Named.{words_set}

-- each row has the bit after that of the row before it
doubles : ℕ → List Row → Bool
doubles place [] = true
doubles place (r ∷ rows) = (r.number == 2 ^ place) && (nat_lt r.number 16777216 && doubles (place + 1) rows)

record Back (place : ℕ) (rows : List Row) (words : List (List ℕ)) (bits : ℕ) : Type 0 where
  pub named : words ≡ words_set place rows bits
  pub none_below : (j : ℕ) → j < place → bit_at bits j ≡ 0
  pub small : bits < 16777216

none_set : (place : ℕ) (rows : List Row) → words_set place rows 0 ≡ []
none_set place [] = refl
none_set place (r ∷ rows) =
    ap (λ b. cond (b == 1) (r.word ∷ words_set (place + 1) rows 0) (words_set (place + 1) rows 0)) (bit_at-zero place) ∙ none_set (place + 1) rows

same_above : (place : ℕ) (rows : List Row) (a b : ℕ) → ((j : ℕ) → place ≤ j → bit_at a j ≡ bit_at b j) → words_set place rows a ≡ words_set place rows b
same_above place [] a b same = refl
same_above place (r ∷ rows) a b same =
    let here : bit_at a place ≡ bit_at b place = same place (omega arith) in
    let more : words_set (place + 1) rows a ≡ words_set (place + 1) rows b = same_above (place + 1) rows a b (λ j above. same j (omega (arith, above))) in
    ap (λ x. cond (x == 1) (r.word ∷ words_set (place + 1) rows a) (words_set (place + 1) rows a)) here
    ∙ ap (λ w. cond (bit_at b place == 1) (r.word ∷ w) w) more

nothing : (place : ℕ) (rows : List Row) (bits : ℕ) → ◌≡◌ {A = Result ℕ ℕ} (Ok 0) (Ok bits) → Back place rows [] bits
nothing place rows bits e =
    let is : 0 ≡ bits = cc in
    subst (Back place rows []) is (record { named = sym (none_set place rows); none_below = λ j below. bit_at-zero j; small = omega arith })

-- a row whose word stands there
taken : (place number : ℕ) (r : Row) (rows : List Row) (word : List ℕ) (words : List (List ℕ)) (rest : ℕ) → word ≡ r.word → r.number ≡ 2 ^ place → r.number < 16777216
    → Back (place + 1) rows words rest → Back place (r ∷ rows) (word ∷ words) (bit_or r.number rest)
taken place number r rows word words rest is own low back =
    let bit_is : (j : ℕ) → bit_at (bit_or r.number rest) j ≡ max (bit_at (2 ^ place) j) (bit_at rest j) = λ j. bit_at_or r.number rest j ∙ ap (λ n. max (bit_at n j) (bit_at rest j)) own in
    let here : bit_at (bit_or r.number rest) place ≡ 1 =
    bit_is place ∙ (ap (λ n. max n (bit_at rest place)) (bit_at-pow_same place) ∙ ap (λ n. max 1 n) (back.none_below place (omega arith))) in
    let other : (j : ℕ) → (j ≡ place → ⊥) → bit_at (bit_or r.number rest) j ≡ bit_at rest j =
    λ j apart. bit_is j ∙ (ap (λ n. max n (bit_at rest j)) (bit_at-pow_other place j apart) ∙ omega arith) in
    let above : words_set (place + 1) rows (bit_or r.number rest) ≡ words_set (place + 1) rows rest =
    same_above (place + 1) rows (bit_or r.number rest) rest (λ j over. other j (λ same. omega (arith, over, same))) in
    record {
      named = ap (λ w. w ∷ words) is ∙ (ap (λ w. r.word ∷ w) (back.named ∙ sym above)
          ∙ sym (ap (λ b. cond (b == 1) (r.word ∷ words_set (place + 1) rows (bit_or r.number rest)) (words_set (place + 1) rows (bit_or r.number rest))) here));
      none_below = λ j below. other j (λ same. omega (arith, below, same)) ∙ back.none_below j (omega (arith, below));
      small = or_lt 24 r.number rest low back.small;
    }

-- one whose word does not
passed : (place : ℕ) (r : Row) (rows : List Row) (words : List (List ℕ)) (bits : ℕ) → Back (place + 1) rows words bits → Back place (r ∷ rows) words bits
passed place r rows words bits back =
    let here : bit_at bits place ≡ 0 = back.none_below place (omega arith) in
    record {
      named = back.named ∙ sym (ap (λ b. cond (b == 1) (r.word ∷ words_set (place + 1) rows bits) (words_set (place + 1) rows bits)) here);
      none_below = λ j below. back.none_below j (omega (arith, below));
      small = back.small;
    }

by_bit : (place number : ℕ) (r : Row) (rows : List Row) (word : List ℕ) (words : List (List ℕ)) (bits : ℕ) (said : Result ℕ ℕ) → word ≡ r.word → r.number ≡ 2 ^ place → r.number < 16777216
    → ((rest : ℕ) → said ≡ Ok rest → Back (place + 1) rows words rest) → with_bit r.number said ≡ Ok bits → Back place (r ∷ rows) (word ∷ words) bits
by_bit place number r rows word words bits (Err k) is own low back e = absurd cc
by_bit place number r rows word words bits (Ok rest) is own low back e =
    let same : bit_or r.number rest ≡ bits = cc in
    subst (Back place (r ∷ rows) (word ∷ words)) same (taken place number r rows word words rest is own low (back rest refl))

first_test : (a b : Bool) → (a && b) ≡ true → a ≡ true
first_test true b e = refl
first_test false b e = e

second_test : (a b : Bool) → (a && b) ≡ true → b ≡ true
second_test true b e = e
second_test false b e = absurd cc

read_back : (place : ℕ) (rows : List Row) (number : ℕ) (words : List (List ℕ)) (bits : ℕ) → doubles place rows ≡ true → bits_of rows number words ≡ Ok bits → Back place rows words bits
unfolding doubles
read_back place [] number [] bits d e = nothing place [] bits e
read_back place [] number (word ∷ words) bits d e = absurd cc
read_back place (r ∷ rows) number [] bits d e = nothing place (r ∷ rows) bits e
read_back place (r ∷ rows) number (word ∷ words) bits d e =
    let is_power : (r.number == 2 ^ place) ≡ true = first_test (r.number == 2 ^ place) (nat_lt r.number 16777216 && doubles (place + 1) rows) d in
    let others : (nat_lt r.number 16777216 && doubles (place + 1) rows) ≡ true = second_test (r.number == 2 ^ place) (nat_lt r.number 16777216 && doubles (place + 1) rows) d in
    let is_low : nat_lt r.number 16777216 ≡ true = first_test (nat_lt r.number 16777216) (doubles (place + 1) rows) others in
    let more : doubles (place + 1) rows ≡ true = second_test (nat_lt r.number 16777216) (doubles (place + 1) rows) others in
    let own : r.number ≡ 2 ^ place = grind (arith, nat_tests) in
    let low : r.number < 16777216 = grind (arith, nat_tests) in
    elim (bytes_eq word r.word) as (λ b. bytes_eq word r.word ≡ b → cond b (with_bit r.number (bits_of rows (number + 1) words)) (bits_of rows number (word ∷ words)) ≡ Ok bits → Back place (r ∷ rows) (word ∷ words) bits) [
      | true ↦ λ same is.
          by_bit place number r rows word words bits (bits_of rows (number + 1) words) ((bytes_eq-Decides word r.word).0 same) own low
          (λ rest said. read_back (place + 1) rows (number + 1) words rest more said) is
      | false ↦ λ same is. passed place r rows (word ∷ words) bits (read_back (place + 1) rows number (word ∷ words) bits more is)
    ] refl e

of_bytes : (words : List (List ℕ)) (bytes : List ℕ) (said : Result ℕ ℕ) → ((bits : ℕ) → said ≡ Ok bits → Back 0 speaker_rows words bits) → three_bytes said ≡ Ok bytes
    → words ≡ words_set 0 speaker_rows (speaker_bits bytes)
of_bytes words bytes (Err k) back e = absurd cc
of_bytes words bytes (Ok bits) back e =
    let is : bits % 256 ∷ bits / 256 % 256 ∷ bits / 65536 % 256 ∷ [] ≡ bytes = cc in
    let own = back bits refl in
    let low : bits < 16777216 = own.small in
    let again : bits ≡ bits % 256 + bits / 256 % 256 * 256 + bits / 65536 % 256 * 65536 = omega arith in
    own.named ∙ (ap (words_set 0 speaker_rows) again ∙ ap (λ p. words_set 0 speaker_rows (speaker_bits p)) is)

table_doubles : doubles 0 speaker_rows ≡ true
unfolding doubles speaker_rows
table_doubles = refl

pub speakers_back : (words : List (List ℕ)) (bytes : List ℕ) → speakers_of words ≡ Ok bytes → words ≡ words_set 0 speaker_rows (speaker_bits bytes)
speakers_back words bytes e =
    of_bytes words bytes (bits_of speaker_rows 1 words) (λ bits said. read_back 0 speaker_rows 1 words bits table_doubles said) e
