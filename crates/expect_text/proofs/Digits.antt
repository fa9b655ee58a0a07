-- A word of a pattern is met by bits of a reading exactly where it is found to be.
use Rattle.std.proofs.Common.{◌≡◌, ℕ, zero, suc, ◌+◌, ◌-◌, ◌==◌, ◌<◌, ◌≤◌, nat_le, nat_lt, ◌&&◌, ◌||◌, ◌⊎◌, inl, inr, not, Bool, true, false, true≢false, if◌then◌else◌, length, map, List, [], ◌∷◌, ◌++◌, Option, Some, None, refl, sym, ap, subst, ◌∙◌, arith}
use Rattle.std.proofs.lemmas.Bool.Decides.{nat_tests}
use Rattle.std.proofs.lemmas.Grind.{common_steps}
use Rattle.line_frames.specs.declared.Ending.{Ending}
use Rattle.message_text.specs.ReadingText.{bit_digit}
use Rattle.expect_text.specs.Bits.{are_stars, first_place, from_found, goes_on, is_eom, is_none, may_have, meets_bits, most, fewest, stands}
use Rattle.expect_text.specs.Fits.{fits, in_word}
use Rattle.expect_text.proofs.Truth.{and_both, either, first_of, or_left, or_right, second_of}

-- ---- bytes and numbers

abbrev IsOther : ℕ → Type 0
IsOther p = ((p == 42) ≡ false) × ((p == 48) ≡ false) × ((p == 49) ≡ false)

byte_is : (p n : ℕ) → (p == n) ≡ true → p ≡ n
byte_is p n h = grind (arith, common_steps)

kind : (p : ℕ) → (p ≡ 42) ⊎ (p ≡ 48) ⊎ (p ≡ 49) ⊎ IsOther p
kind p = by (p == 42) (p == 48) (p == 49) refl refl refl
  where
    by : (a b c : Bool) → (p == 42) ≡ a → (p == 48) ≡ b → (p == 49) ≡ c → (p ≡ 42) ⊎ (p ≡ 48) ⊎ (p ≡ 49) ⊎ IsOther p
    by true b c e h k = inl (byte_is p 42 e)
    by false true c e h k = inr (inl (byte_is p 48 h))
    by false false true e h k = inr (inr (inl (byte_is p 49 k)))
    by false false false e h k = inr (inr (inr (e, h, k)))

is_less : (n m : ℕ) → n < m → nat_lt n m ≡ true
is_less n m l = grind (arith, nat_tests)

le_is : (n m : ℕ) → nat_le n m ≡ true → n ≤ m
le_is n m h = grind (arith, nat_tests)

not_both : {T : Type 0} → true ≡ false → T
not_both h = absurd (true≢false h)

no_byte : (p n : ℕ) → (p == n) ≡ false → (n == p) ≡ false
no_byte p n h = grind (arith, common_steps)

no_fit : (p : ℕ) (ps : List ℕ) (bits : List Bool) → IsOther p → fits (p ∷ ps) (map bit_digit bits) ≡ false
no_fit p ps [] o = rw o.0 refl
no_fit p ps (true ∷ bits) o = rw (o.0, no_byte p 49 o.2) refl
no_fit p ps (false ∷ bits) o = rw (o.0, no_byte p 48 o.1) refl

-- ---- stars at the end

stars_fit : (ps : List ℕ) → are_stars ps ≡ true → fits ps [] ≡ true
stars_fit [] h = refl
stars_fit (p ∷ ps) h =
    subst (λ n. fits (n ∷ ps) [] ≡ true) (sym (byte_is p 42 (first_of (p == 42) (are_stars ps) h))) (stars_fit ps (second_of (p == 42) (are_stars ps) h))

stars_alone : (ps : List ℕ) → fits ps [] ≡ true → are_stars ps ≡ true
stars_alone [] h = refl
stars_alone (p ∷ ps) h = by (p == 42) refl h (stars_alone ps)
  where
    by : (c : Bool) → (p == 42) ≡ c → (if c then fits ps [] else false) ≡ true → (fits ps [] ≡ true → are_stars ps ≡ true) → ((p == 42) && are_stars ps) ≡ true
    by true e f later = and_both (p == 42) (are_stars ps) e (later f)
    by false e f later = not_both (sym f)

-- ---- a first place

module _ (ending : Ending) where
  abbrev Place : ℕ → ℕ → List ℕ → ℕ → Type 0
  Place place count word n = (place ≤ n) × (n < place + count) × (stands ending n word ≡ true)

  place_found : (count place n : ℕ) (word : List ℕ) → first_place ending place count word ≡ Some n → Place place count word n
  place_found zero place n word e = cc
  place_found (suc count) place n word e = by (stands ending place word) refl e (place_found count (place + 1) n word)
    where
      by : (c : Bool) → stands ending place word ≡ c → (if c then Some place else first_place ending (place + 1) count word) ≡ Some n
          → (first_place ending (place + 1) count word ≡ Some n → (place + 1 ≤ n) × (n < place + 1 + count) × (stands ending n word ≡ true))
          → (place ≤ n) × (n < place + suc count) × (stands ending n word ≡ true)
      by true h k later = let same : place ≡ n = cc in (omega (arith, same), omega (arith, same), subst (λ m. stands ending m word ≡ true) same h)
      by false h k later = let r = later k in (omega (arith, r.0), omega (arith, r.1), r.2)

  abbrev First : ℕ → ℕ → List ℕ → ℕ → Type 0
  First place count word n = (q : ℕ) × (first_place ending place count word ≡ Some q) × (place ≤ q) × (q ≤ n) × (stands ending q word ≡ true)

  place_there : (count place n : ℕ) (word : List ℕ) → place ≤ n → n < place + count → stands ending n word ≡ true → First place count word n
  place_there zero place n word l m h = absurd (omega (arith, l, m))
  place_there (suc count) place n word l m h = by (stands ending place word) refl (place_there count (place + 1) n word)
    where
      by : (c : Bool) → stands ending place word ≡ c → (place + 1 ≤ n → n < place + 1 + count → stands ending n word ≡ true → First (place + 1) count word n)
          → (q : ℕ) × ((if c then Some place else first_place ending (place + 1) count word) ≡ Some q) × (place ≤ q) × (q ≤ n) × (stands ending q word ≡ true)
      by true e later = (place, refl, omega arith, l, e)
      by false e later =
          let far : (place ≡ n) → ⊥ = λ same. true≢false (sym h ∙ ap (λ (k : ℕ). stands ending k word) (sym same) ∙ e) in
          let r = later (next place n l far) (omega (arith, m)) h in
          (r.0, r.1, omega (arith, r.2), r.3, r.4)
        where
          next : (a b : ℕ) → a ≤ b → (a ≡ b → ⊥) → a + 1 ≤ b
          next a b less other = grind (arith, other)

  -- ---- that a word stands, and that it is met

  no_meets : (place p : ℕ) (ps : List ℕ) → IsOther p → meets_bits ending place (p ∷ ps) ≡ false
  no_meets place p ps o = rw (o.0, o.1, o.2) refl

  meets_stand : (word : List ℕ) (place : ℕ) → meets_bits ending place word ≡ true → stands ending place word ≡ true
  meets_stand [] place h = h
  meets_stand (p ∷ ps) place h = by (kind p) (λ k. meets_stand ps (place + 1) k)
    where
      by_eom : (eom : Bool) → ((meets_bits ending (place + 1) ps ≡ true) → stands ending (place + 1) ps ≡ true)
          → (if eom then are_stars ps && may_have ending (place + 1) else meets_bits ending (place + 1) ps) ≡ true
          → (if eom then are_stars ps && may_have ending (place + 1) else stands ending (place + 1) ps) ≡ true
      by_eom true later k = k
      by_eom false later k = later k

      by : (p ≡ 42) ⊎ (p ≡ 48) ⊎ (p ≡ 49) ⊎ IsOther p → (meets_bits ending (place + 1) ps ≡ true → stands ending (place + 1) ps ≡ true) → stands ending place (p ∷ ps) ≡ true
      by (inl e) later = subst (λ n. stands ending place (n ∷ ps) ≡ true) (sym e) refl
      by (inr (inl e)) later =
          let k : (nat_lt place (most ending) && meets_bits ending (place + 1) ps) ≡ true = subst (λ n. meets_bits ending place (n ∷ ps) ≡ true) e h in
          subst (λ n. stands ending place (n ∷ ps) ≡ true) (sym e)
          (and_both (nat_lt place (most ending)) (stands ending (place + 1) ps) (first_of (nat_lt place (most ending)) (meets_bits ending (place + 1) ps) k) (later (second_of (nat_lt place (most ending)) (meets_bits ending (place + 1) ps) k)))
      by (inr (inr (inl e))) later =
          let old = if is_eom place then are_stars ps && may_have ending (place + 1) else meets_bits ending (place + 1) ps in
          let new = if is_eom place then are_stars ps && may_have ending (place + 1) else stands ending (place + 1) ps in
          let k : (nat_lt place (most ending) && old) ≡ true = subst (λ n. meets_bits ending place (n ∷ ps) ≡ true) e h in
          subst (λ n. stands ending place (n ∷ ps) ≡ true) (sym e)
          (and_both (nat_lt place (most ending)) new (first_of (nat_lt place (most ending)) old k) (by_eom (is_eom place) later (second_of (nat_lt place (most ending)) old k)))
      by (inr (inr (inr o))) later = not_both (sym h ∙ no_meets place p ps o)

  -- ---- by as few bits as the word allows

  has_most : (count : ℕ) → may_have ending count ≡ true → count ≤ most ending
  has_most count h = le_is count (most ending) (second_of (nat_le (fewest ending) count) (nat_le count (most ending)) (second_of (nat_le 1 count) (nat_le (fewest ending) count && nat_le count (most ending)) h))

  -- a word after a star, from a place from which it is met
  starred : (place n : ℕ) (ps : List ℕ) → place ≤ n → n ≤ most ending → meets_bits ending n ps ≡ true
      → ((q : ℕ) → q ≤ n → stands ending q ps ≡ true → meets_bits ending q ps ≡ true) → meets_bits ending place (42 ∷ ps) ≡ true
  starred place n ps l m h earlier =
      let f = place_there (most ending + 1 - place) place n ps l (omega (arith, l, m)) (meets_stand ps n h) in
      ap (from_found (λ k. meets_bits ending k ps)) f.1 ∙ earlier f.0 f.3 f.4

  abbrev Starred : ℕ → List ℕ → Type 0
  Starred place ps = (n : ℕ) × (place ≤ n) × (n ≤ most ending) × (meets_bits ending n ps ≡ true)

  after_star : (place : ℕ) (ps : List ℕ) → meets_bits ending place (42 ∷ ps) ≡ true → Starred place ps
  after_star place ps h = by (first_place ending place (most ending + 1 - place) ps) refl h
    where
      by : (o : Option ℕ) → first_place ending place (most ending + 1 - place) ps ≡ o → from_found (λ k. meets_bits ending k ps) o ≡ true → Starred place ps
      by None e k = not_both (sym k)
      by (Some n) e k = let r = within n (place_found (most ending + 1 - place) place n ps e) in (n, r.0, r.1, k)
        where
          within : (n : ℕ) → Place place (most ending + 1 - place) ps n → (place ≤ n) × (n ≤ most ending)
          within n r = (r.0, omega (arith, r.0, r.1))

  stars_met : (ps : List ℕ) (n : ℕ) → are_stars ps ≡ true → may_have ending n ≡ true → meets_bits ending n ps ≡ true
  stars_met [] n h m = m
  stars_met (p ∷ ps) n h m =
      let more = stars_met ps n (second_of (p == 42) (are_stars ps) h) m in
      let f = place_there (most ending + 1 - n) n n ps (omega arith) (omega (arith, has_most n m)) (meets_stand ps n more) in
      let same : n ≡ f.0 = omega (arith, f.2, f.3) in
      subst (λ k. meets_bits ending n (k ∷ ps) ≡ true) (sym (byte_is p 42 (first_of (p == 42) (are_stars ps) h)))
      (ap (from_found (λ k. meets_bits ending k ps)) f.1 ∙ subst (λ k. meets_bits ending k ps ≡ true) same more)

  -- what is met from a place is met from an earlier one where it stands up to its first star
  earlier : (word : List ℕ) (q n : ℕ) → q ≤ n → meets_bits ending n word ≡ true → stands ending q word ≡ true → meets_bits ending q word ≡ true
  earlier [] q n l h k = k
  earlier (p ∷ ps) q n l h k = by (kind p) (earlier ps)
    where
      Later : Type 0
      Later = (a b : ℕ) → a ≤ b → meets_bits ending b ps ≡ true → stands ending a ps ≡ true → meets_bits ending a ps ≡ true

      after_one : (eom : Bool) → (if eom then are_stars ps && may_have ending (n + 1) else meets_bits ending (n + 1) ps) ≡ true → meets_bits ending (n + 1) ps ≡ true
      after_one true e = stars_met ps (n + 1) (first_of (are_stars ps) (may_have ending (n + 1)) e) (second_of (are_stars ps) (may_have ending (n + 1)) e)
      after_one false e = e

      by_eom : (eom : Bool) → ((stands ending (q + 1) ps ≡ true) → meets_bits ending (q + 1) ps ≡ true)
          → (if eom then are_stars ps && may_have ending (q + 1) else stands ending (q + 1) ps) ≡ true
          → (if eom then are_stars ps && may_have ending (q + 1) else meets_bits ending (q + 1) ps) ≡ true
      by_eom true later e = e
      by_eom false later e = later e

      by : (p ≡ 42) ⊎ (p ≡ 48) ⊎ (p ≡ 49) ⊎ IsOther p
          → ((a b : ℕ) → a ≤ b → meets_bits ending b ps ≡ true → stands ending a ps ≡ true → meets_bits ending a ps ≡ true) → meets_bits ending q (p ∷ ps) ≡ true
      by (inl e) later =
          let r = after_star n ps (subst (λ m. meets_bits ending n (m ∷ ps) ≡ true) e h) in
          subst (λ m. meets_bits ending q (m ∷ ps) ≡ true) (sym e) (starred q r.0 ps (omega (arith, l, r.1)) r.2 r.3 (λ a x y. later a r.0 x r.3 y))
      by (inr (inl e)) later =
          let old : (nat_lt n (most ending) && meets_bits ending (n + 1) ps) ≡ true = subst (λ m. meets_bits ending n (m ∷ ps) ≡ true) e h in
          let new : (nat_lt q (most ending) && stands ending (q + 1) ps) ≡ true = subst (λ m. stands ending q (m ∷ ps) ≡ true) e k in
          subst (λ m. meets_bits ending q (m ∷ ps) ≡ true) (sym e)
          (and_both (nat_lt q (most ending)) (meets_bits ending (q + 1) ps) (first_of (nat_lt q (most ending)) (stands ending (q + 1) ps) new)
          (later (q + 1) (n + 1) (omega (arith, l)) (second_of (nat_lt n (most ending)) (meets_bits ending (n + 1) ps) old) (second_of (nat_lt q (most ending)) (stands ending (q + 1) ps) new)))
      by (inr (inr (inl e))) later =
          let met = if is_eom n then are_stars ps && may_have ending (n + 1) else meets_bits ending (n + 1) ps in
          let standing = if is_eom q then are_stars ps && may_have ending (q + 1) else stands ending (q + 1) ps in
          let goal = if is_eom q then are_stars ps && may_have ending (q + 1) else meets_bits ending (q + 1) ps in
          let old : (nat_lt n (most ending) && met) ≡ true = subst (λ m. meets_bits ending n (m ∷ ps) ≡ true) e h in
          let new : (nat_lt q (most ending) && standing) ≡ true = subst (λ m. stands ending q (m ∷ ps) ≡ true) e k in
          let there = after_one (is_eom n) (second_of (nat_lt n (most ending)) met old) in
          subst (λ m. meets_bits ending q (m ∷ ps) ≡ true) (sym e)
          (and_both (nat_lt q (most ending)) goal (first_of (nat_lt q (most ending)) standing new)
          (by_eom (is_eom q) (λ x. later (q + 1) (n + 1) (omega (arith, l)) there x) (second_of (nat_lt q (most ending)) standing new)))
      by (inr (inr (inr o))) later = not_both (sym h ∙ no_meets n p ps o)

  -- ---- the bits that meet a word

  abbrev pub Found : ℕ → List ℕ → Type 0
  Found place word = (bits : List Bool) × (fits word (map bit_digit bits) ≡ true) × (goes_on place bits ≡ true) × (may_have ending (place + length bits) ≡ true)

  abbrev pub zeros : ℕ → List Bool → List Bool
  zeros zero bits = bits
  zeros (suc n) bits = false ∷ zeros n bits

  pub zeros_go : (n place : ℕ) (bits : List Bool) → goes_on (place + n) bits ≡ true → goes_on place (zeros n bits) ≡ true
  zeros_go zero place bits h = let same : place + 0 ≡ place = omega arith in subst (λ k. goes_on k bits ≡ true) same h
  zeros_go (suc n) place bits h = let same : place + suc n ≡ place + 1 + n = omega arith in zeros_go n (place + 1) bits (subst (λ k. goes_on k bits ≡ true) same h)

  zeros_fit : (n : ℕ) (ps : List ℕ) (bits : List Bool) → fits ps (map bit_digit bits) ≡ true → in_word (fits ps) (map bit_digit (zeros n bits)) ≡ true
  zeros_fit zero ps [] h = h
  zeros_fit zero ps (true ∷ bits) h = or_left (fits ps (49 ∷ map bit_digit bits)) (in_word (fits ps) (map bit_digit bits)) h
  zeros_fit zero ps (false ∷ bits) h = or_left (fits ps (48 ∷ map bit_digit bits)) (in_word (fits ps) (map bit_digit bits)) h
  zeros_fit (suc n) ps bits h = or_right (fits ps (48 ∷ map bit_digit (zeros n bits))) (in_word (fits ps) (map bit_digit (zeros n bits))) (zeros_fit n ps bits h)

  pub zeros_many : (n : ℕ) (bits : List Bool) → length (zeros n bits) ≡ n + length bits
  zeros_many zero bits = omega arith
  zeros_many (suc n) bits = let more = zeros_many n bits in omega (arith, more)

  may_be : (n m : ℕ) → n ≡ m → may_have ending n ≡ true → may_have ending m ≡ true
  may_be n m e h = subst (λ k. may_have ending k ≡ true) e h

  found_star : (place : ℕ) (ps : List ℕ) → meets_bits ending place (42 ∷ ps) ≡ true → ((n : ℕ) → meets_bits ending n ps ≡ true → Found n ps) → Found place (42 ∷ ps)
  found_star place ps h later =
      let s = after_star place ps h in
      let r = later s.0 s.3 in
      let at : s.0 ≡ place + (s.0 - place) = omega (arith, s.1) in
      let many = zeros_many (s.0 - place) r.0 in (
        zeros (s.0 - place) r.0,
        zeros_fit (s.0 - place) ps r.0 r.1,
        zeros_go (s.0 - place) place r.0 (subst (λ k. goes_on k r.0 ≡ true) at r.2),
        may_be (s.0 + length r.0) (place + length (zeros (s.0 - place) r.0)) (omega (arith, many, at)) r.3,
      )

  one_found : (place : ℕ) (ps : List ℕ) → (nat_lt place (most ending) && (if is_eom place then are_stars ps && may_have ending (place + 1) else meets_bits ending (place + 1) ps)) ≡ true
      → (meets_bits ending (place + 1) ps ≡ true → Found (place + 1) ps) → Found place (49 ∷ ps)
  one_found place ps h later =
      by (is_eom place) refl
      (second_of (nat_lt place (most ending)) (if is_eom place then are_stars ps && may_have ending (place + 1) else meets_bits ending (place + 1) ps) h)
    where
      by : (eom : Bool) → is_eom place ≡ eom → (if eom then are_stars ps && may_have ending (place + 1) else meets_bits ending (place + 1) ps) ≡ true → Found place (49 ∷ ps)
      by true e k = (
        true ∷ [],
        stars_fit ps (first_of (are_stars ps) (may_have ending (place + 1)) k),
        and_both (not (true && is_eom place) || true) true (or_right (not (true && is_eom place)) true refl) refl,
        second_of (are_stars ps) (may_have ending (place + 1)) k,
      )
      by false e k =
          let r = later k in
          let on : not (true && is_eom place) ≡ true = ap (λ c. not (true && c)) e in (
            true ∷ r.0,
            r.1,
            and_both (not (true && is_eom place) || is_none r.0) (goes_on (place + 1) r.0) (or_left (not (true && is_eom place)) (is_none r.0) on) r.2,
            may_be (place + 1 + length r.0) (place + length (true ∷ r.0)) (omega arith) r.3,
          )

  pub bits_found : (word : List ℕ) (place : ℕ) → meets_bits ending place word ≡ true → Found place word
  bits_found [] place h = ([], refl, refl, may_be place (place + 0) (omega arith) h)
  bits_found (p ∷ ps) place h = by (kind p) (bits_found ps)
    where
      by : (p ≡ 42) ⊎ (p ≡ 48) ⊎ (p ≡ 49) ⊎ IsOther p → ((n : ℕ) → meets_bits ending n ps ≡ true → Found n ps) → Found place (p ∷ ps)
      by (inl e) later = subst (λ n. Found place (n ∷ ps)) (sym e) (found_star place ps (subst (λ n. meets_bits ending place (n ∷ ps) ≡ true) e h) later)
      by (inr (inl e)) later =
          let k : (nat_lt place (most ending) && meets_bits ending (place + 1) ps) ≡ true = subst (λ n. meets_bits ending place (n ∷ ps) ≡ true) e h in
          let r = later (place + 1) (second_of (nat_lt place (most ending)) (meets_bits ending (place + 1) ps) k) in
          subst (λ n. Found place (n ∷ ps)) (sym e) (false ∷ r.0, r.1, r.2, may_be (place + 1 + length r.0) (place + length (false ∷ r.0)) (omega arith) r.3)
      by (inr (inr (inl e))) later = subst (λ n. Found place (n ∷ ps)) (sym e) (one_found place ps (subst (λ n. meets_bits ending place (n ∷ ps) ≡ true) e h) (later (place + 1)))
      by (inr (inr (inr o))) later = not_both (sym h ∙ no_meets place p ps o)

  -- ---- where bits meet it

  -- what a star leaves
  abbrev Left : List ℕ → List Bool → Type 0
  Left ps bits = (front rest : List Bool) × (bits ≡ front ++ rest) × (fits ps (map bit_digit rest) ≡ true)

  left_by : (ps : List ℕ) (bits : List Bool) → in_word (fits ps) (map bit_digit bits) ≡ true → Left ps bits
  left_by ps [] h = ([], [], refl, h)
  left_by ps (bit ∷ bits) h = either (fits ps (bit_digit bit ∷ map bit_digit bits)) (not (bit_digit bit == 32) && in_word (fits ps) (map bit_digit bits)) h
      (λ e. ([], bit ∷ bits, refl, e))
      (λ e. let r = left_by ps bits (second_of (not (bit_digit bit == 32)) (in_word (fits ps) (map bit_digit bits)) e) in (bit ∷ r.0, r.1, ap (λ (x : List Bool). bit ∷ x) r.2, r.3))

  goes_after : (front rest : List Bool) (place : ℕ) → goes_on place (front ++ rest) ≡ true → goes_on (place + length front) rest ≡ true
  goes_after [] rest place h = let same : place ≡ place + 0 = omega arith in subst (λ k. goes_on k rest ≡ true) same h
  goes_after (bit ∷ front) rest place h =
      let same : place + 1 + length front ≡ place + length (bit ∷ front) = omega arith in
      subst (λ k. goes_on k rest ≡ true) same (goes_after front rest (place + 1) (second_of (not (bit && is_eom place) || is_none (front ++ rest)) (goes_on (place + 1) (front ++ rest)) h))

  many : (front rest : List Bool) → length (front ++ rest) ≡ length front + length rest
  many [] rest = omega arith
  many (bit ∷ front) rest = let more = many front rest in omega (arith, more)

  abbrev Later : List ℕ → Type 0
  Later ps = (place : ℕ) (bits : List Bool) → fits ps (map bit_digit bits) ≡ true → goes_on place bits ≡ true → may_have ending (place + length bits) ≡ true → meets_bits ending place ps ≡ true

  star_only : (ps : List ℕ) → Later ps → Later (42 ∷ ps)
  star_only ps later place bits f g m =
      let l = left_by ps bits f in
      let count : place + length bits ≡ place + length l.0 + length l.1 = omega (arith, ap length l.2, many l.0 l.1) in
      let may = may_be (place + length bits) (place + length l.0 + length l.1) count m in
      let met = later (place + length l.0) l.1 l.3 (goes_after l.0 l.1 place (subst (λ x. goes_on place x ≡ true) l.2 g)) may in
      let few = has_most (place + length l.0 + length l.1) may in
      starred place (place + length l.0) ps (omega arith) (omega (arith, few)) met (λ q x y. earlier ps q (place + length l.0) x met y)

  inside : (place : ℕ) (bit : Bool) (bits : List Bool) → may_have ending (place + length (bit ∷ bits)) ≡ true → nat_lt place (most ending) ≡ true
  inside place bit bits m = let few = has_most (place + length (bit ∷ bits)) m in is_less place (most ending) (omega (arith, few))

  zero_only : (ps : List ℕ) → Later ps → Later (48 ∷ ps)
  zero_only ps later place [] f g m = not_both (sym f)
  zero_only ps later place (true ∷ bits) f g m = not_both (sym f)
  zero_only ps later place (false ∷ bits) f g m =
      and_both (nat_lt place (most ending)) (meets_bits ending (place + 1) ps) (inside place false bits m) (later (place + 1) bits f g (may_be (place + length (false ∷ bits)) (place + 1 + length bits) (omega arith) m))

  one_only : (ps : List ℕ) → Later ps → Later (49 ∷ ps)
  one_only ps later place [] f g m = not_both (sym f)
  one_only ps later place (false ∷ bits) f g m = not_both (sym f)
  one_only ps later place (true ∷ bits) f g m =
      and_both (nat_lt place (most ending)) (if is_eom place then are_stars ps && may_have ending (place + 1) else meets_bits ending (place + 1) ps) (inside place true bits m)
      (by (is_eom place) bits f may (first_of (not (true && is_eom place) || is_none bits) (goes_on (place + 1) bits) g) (second_of (not (true && is_eom place) || is_none bits) (goes_on (place + 1) bits) g))
    where
      may : may_have ending (place + 1 + length bits) ≡ true
      may = may_be (place + length (true ∷ bits)) (place + 1 + length bits) (omega arith) m

      by : (eom : Bool) (xs : List Bool) → fits ps (map bit_digit xs) ≡ true → may_have ending (place + 1 + length xs) ≡ true → (not (true && eom) || is_none xs) ≡ true → goes_on (place + 1) xs ≡ true
          → (if eom then are_stars ps && may_have ending (place + 1) else meets_bits ending (place + 1) ps) ≡ true
      by true [] e c h k = and_both (are_stars ps) (may_have ending (place + 1)) (stars_alone ps e) (may_be (place + 1 + 0) (place + 1) (omega arith) c)
      by true (x ∷ xs) e c h k = not_both (sym h)
      by false xs e c h k = later (place + 1) xs e k c

  pub bits_meet : (word : List ℕ) → Later word
  bits_meet [] place [] f g m = may_be (place + 0) place (omega arith) m
  bits_meet [] place (true ∷ bits) f g m = not_both (sym f)
  bits_meet [] place (false ∷ bits) f g m = not_both (sym f)
  bits_meet (p ∷ ps) place bits f g m = by (kind p) (bits_meet ps)
    where
      by : (p ≡ 42) ⊎ (p ≡ 48) ⊎ (p ≡ 49) ⊎ IsOther p → Later ps → meets_bits ending place (p ∷ ps) ≡ true
      by (inl e) later = subst (λ n. meets_bits ending place (n ∷ ps) ≡ true) (sym e) (star_only ps later place bits (subst (λ n. fits (n ∷ ps) (map bit_digit bits) ≡ true) e f) g m)
      by (inr (inl e)) later = subst (λ n. meets_bits ending place (n ∷ ps) ≡ true) (sym e) (zero_only ps later place bits (subst (λ n. fits (n ∷ ps) (map bit_digit bits) ≡ true) e f) g m)
      by (inr (inr (inl e))) later = subst (λ n. meets_bits ending place (n ∷ ps) ≡ true) (sym e) (one_only ps later place bits (subst (λ n. fits (n ∷ ps) (map bit_digit bits) ≡ true) e f) g m)
      by (inr (inr (inr o))) later = not_both (sym f ∙ no_fit p ps bits o)
