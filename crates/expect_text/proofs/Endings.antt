-- What is shown of the bits of a reading, and then the end of its line, meets a pattern exactly where it is found to.
use Rattle.std.proofs.Common.{◌≡◌, ℕ, suc, ◌+◌, ◌==◌, ◌≤◌, nat_le, ◌&&◌, ◌||◌, ◌⊎◌, inl, inr, not, Bool, true, false, true≢false, codes, length, map, take, drop, List, [], ◌∷◌, ◌++◌, refl, sym, ap, subst, ◌∙◌, arith}
use Rattle.std.specs.List.{list_all}
use Rattle.std.proofs.lemmas.Bool.Decides.{nat_tests}
use Rattle.std.proofs.lemmas.Grind.{common_steps}
use Rattle.line_frames.specs.declared.Ending.{Ending}
use Rattle.line_frames.specs.declared.Ending.TheVariants.{Complete, Short, Silent, BadStart, Long, Open}
use Rattle.message_text.specs.ReadingText.{bit_digit, bits_text}
use Rattle.expect_text.specs.Bits.{FitsEnding, bits_met, fewest, goes_on, is_word_met, may_have, meets_bits, most, word_length}
use Rattle.expect_text.specs.Fits.{fits, in_word}
use Rattle.expect_text.specs.Senders.{Judged, IsTail, tail_met}
use Rattle.expect_text.specs.Senders.Judged.{Run, Capture}
use Rattle.expect_text.proofs.Digits.{bits_found, bits_meet, zeros, zeros_go, zeros_many}
use Rattle.expect_text.proofs.Meeting.{Decides, is_not, plain, same_byte}
use Rattle.expect_text.proofs.Sending.{tail_decides}
use Rattle.expect_text.proofs.Spelling.{BitsBefore}
use Rattle.expect_text.proofs.Truth.{and_both, either, first_of, or_left, or_right, second_of}

-- ---- a word and what stands after it

abbrev no_space : List ℕ → Bool
no_space text = list_all (λ b. not (b == 32)) text

abbrev Begins : List ℕ → Type 0
Begins tail = (tail ≡ []) ⊎ ((more : List ℕ) × (tail ≡ 32 ∷ more))

turned : (p n : ℕ) → (p == n) ≡ false → (n == p) ≡ false
turned p n h = grind (arith, common_steps)

or_no : (b : Bool) → (b || false) ≡ b
or_no true = refl
or_no false = refl

shared : (a n b t : Bool) → ((a && t) || (n && (b && t))) ≡ ((a || (n && b)) && t)
shared true n b true = refl
shared true true true false = refl
shared true true false false = refl
shared true false b false = refl
shared false true b t = refl
shared false false b t = refl

grouped : (a b c : Bool) → (a && (b && c)) ≡ ((a && b) && c)
grouped true b c = refl
grouped false b c = refl

module _ (p : ℕ) (ps : List ℕ) (other : (p == 32) ≡ false) where
  one_more : word_length (p ∷ ps) ≡ suc (word_length ps)
  one_more = let more : 1 + word_length ps ≡ suc (word_length ps) = omega arith in rw other more

  taken : take (word_length (p ∷ ps)) (p ∷ ps) ≡ p ∷ take (word_length ps) ps
  taken = ap (λ (n : ℕ). take n (p ∷ ps)) one_more

  dropped : drop (word_length (p ∷ ps)) (p ∷ ps) ≡ drop (word_length ps) ps
  dropped = ap (λ (n : ℕ). drop n (p ∷ ps)) one_more

module _ (tail : List ℕ) (begins : Begins tail) where
  abbrev Parted : List ℕ → List ℕ → List ℕ → Type 0
  Parted pattern word rest = (text : List ℕ) → no_space text ≡ true → fits pattern (text ++ tail) ≡ (fits word text && fits rest tail)

  no_more : fits [] tail ≡ true
  no_more = by begins
    where
      by : Begins tail → fits [] tail ≡ true
      by (inl e) = ap (fits []) e
      by (inr e) = ap (fits []) e.1

  none_by : Parted [] [] []
  none_by [] h = refl
  none_by (b ∷ bs) h = let other = is_not (b == 32) (first_of (not (b == 32)) (no_space bs) h) in other ∙ sym (ap (λ (c : Bool). c && fits [] tail) other)

  space_by : (ps : List ℕ) → Parted (32 ∷ ps) [] (32 ∷ ps)
  space_by ps [] h = refl
  space_by ps (b ∷ bs) h =
      let other = is_not (b == 32) (first_of (not (b == 32)) (no_space bs) h) in
      ap (λ (c : Bool). c && fits ps (bs ++ tail)) other ∙ sym (ap (λ (c : Bool). c && fits (32 ∷ ps) tail) other)

  star_by : (ps word rest : List ℕ) → Parted ps word rest → Parted (42 ∷ ps) (42 ∷ word) rest
  star_by ps word rest later [] h = by begins
    where
      at_end : fits ps tail ≡ (fits word [] && fits rest tail)
      at_end = later [] refl

      by : Begins tail → in_word (fits ps) tail ≡ (fits word [] && fits rest tail)
      by (inl e) = ap (in_word (fits ps)) e ∙ ap (fits ps) (sym e) ∙ at_end
      by (inr e) = ap (in_word (fits ps)) e.1 ∙ or_no (fits ps (32 ∷ e.0)) ∙ ap (fits ps) (sym e.1) ∙ at_end
  star_by ps word rest later (b ∷ bs) h =
      let more = star_by ps word rest later bs (second_of (not (b == 32)) (no_space bs) h) in
      ap (λ (c : Bool). c || (not (b == 32) && in_word (fits ps) (bs ++ tail))) (later (b ∷ bs) h)
      ∙ ap (λ (c : Bool). (fits word (b ∷ bs) && fits rest tail) || (not (b == 32) && c)) more
      ∙ shared (fits word (b ∷ bs)) (not (b == 32)) (in_word (fits word) bs) (fits rest tail)

  byte_by : (p : ℕ) (ps word rest : List ℕ) → (p == 42) ≡ false → (p == 32) ≡ false → Parted ps word rest → Parted (p ∷ ps) (p ∷ word) rest
  byte_by p ps word rest star other later [] h = by begins
    where
      none : fits (p ∷ word) [] ≡ false
      none = plain p word [] star

      by : Begins tail → fits (p ∷ ps) tail ≡ (fits (p ∷ word) [] && fits rest tail)
      by (inl e) = ap (fits (p ∷ ps)) e ∙ plain p ps [] star ∙ sym (ap (λ (c : Bool). c && fits rest tail) none)
      by (inr e) = ap (fits (p ∷ ps)) e.1 ∙ plain p ps (32 ∷ e.0) star ∙ ap (λ (c : Bool). c && fits ps e.0) (turned p 32 other) ∙ sym (ap (λ (c : Bool). c && fits rest tail) none)
  byte_by p ps word rest star other later (b ∷ bs) h =
      plain p ps (b ∷ (bs ++ tail)) star ∙ ap (λ (c : Bool). (b == p) && c) (later bs (second_of (not (b == 32)) (no_space bs) h))
      ∙ grouped (b == p) (fits word bs) (fits rest tail) ∙ sym (ap (λ (c : Bool). c && fits rest tail) (plain p word (b ∷ bs) star))

  -- a word without spaces and what begins with one are met by the parts of a pattern
  parted : (pattern : List ℕ) → Parted pattern (take (word_length pattern) pattern) (drop (word_length pattern) pattern)
  parted [] = none_by
  parted (p ∷ ps) = by (p == 32) (p == 42) refl refl (parted ps)
    where
      by : (space star : Bool) → (p == 32) ≡ space → (p == 42) ≡ star → Parted ps (take (word_length ps) ps) (drop (word_length ps) ps)
          → Parted (p ∷ ps) (take (word_length (p ∷ ps)) (p ∷ ps)) (drop (word_length (p ∷ ps)) (p ∷ ps))
      by true star e k later = subst (λ (n : ℕ). Parted (n ∷ ps) (take (word_length (n ∷ ps)) (n ∷ ps)) (drop (word_length (n ∷ ps)) (n ∷ ps))) (sym (same_byte p 32 e)) (space_by ps)
      by false star e k later = subst (λ (w : List ℕ). Parted (p ∷ ps) w (drop (word_length (p ∷ ps)) (p ∷ ps))) (sym (taken p ps e))
          (subst (λ (r : List ℕ). Parted (p ∷ ps) (p ∷ take (word_length ps) ps) r) (sym (dropped p ps e)) (by_star star k))
        where
          by_star : (c : Bool) → (p == 42) ≡ c → Parted (p ∷ ps) (p ∷ take (word_length ps) ps) (drop (word_length ps) ps)
          by_star true k = subst (λ (n : ℕ). Parted (n ∷ ps) (n ∷ take (word_length ps) ps) (drop (word_length ps) ps)) (sym (same_byte p 42 k)) (star_by ps (take (word_length ps) ps) (drop (word_length ps) ps) later)
          by_star false k = byte_by p ps (take (word_length ps) ps) (drop (word_length ps) ps) k e later

-- ---- what is shown of bits

digits_plain : (bits : List Bool) → no_space (map bit_digit bits) ≡ true
digits_plain [] = refl
digits_plain (true ∷ bits) = digits_plain bits
digits_plain (false ∷ bits) = digits_plain bits

shown_plain : (bits : List Bool) → no_space (bits_text bits) ≡ true
shown_plain [] = refl
shown_plain (b ∷ bits) = digits_plain (b ∷ bits)

tail_begins : (who : Judged) (tail : List ℕ) → IsTail who tail → Begins tail
tail_begins (Run names) tail t = inr (_, t.4)
tail_begins Capture tail t = inl t

le_so : (n m : ℕ) → n ≤ m → nat_le n m ≡ true
le_so n m l = grind (arith, nat_tests)

so_le : (n m : ℕ) → nat_le n m ≡ true → n ≤ m
so_le n m h = grind (arith, nat_tests)

no_fewer : (n : ℕ) → n ≤ 0 → (n == 0) ≡ true
no_fewer n l = grind (arith, nat_tests)

none_of : (n : ℕ) → (n == 0) ≡ true → n ≤ 0
none_of n h = grind (arith, nat_tests)

module _ (ending : Ending) where
  -- ---- words

  shown_met : (bits : List Bool) (word : List ℕ) → FitsEnding ending bits → fits word (bits_text bits) ≡ true → is_word_met ending word ≡ true
  unfolding is_word_met
  shown_met [] word few f =
      or_left ((fewest ending == 0) && fits word (codes "-")) (meets_bits ending 0 word) (and_both (fewest ending == 0) (fits word (codes "-")) (no_fewer (fewest ending) few.0) f)
  shown_met (b ∷ bits) word few f =
      or_right ((fewest ending == 0) && fits word (codes "-")) (meets_bits ending 0 word) (bits_meet ending word 0 (b ∷ bits) f few.2 (subst (λ (n : ℕ). may_have ending n ≡ true) same may))
    where
      n : ℕ
      n = length (b ∷ bits)

      same : length (b ∷ bits) ≡ 0 + length (b ∷ bits)
      same = omega arith

      may : may_have ending (length (b ∷ bits)) ≡ true
      may = and_both (nat_le 1 (length (b ∷ bits))) (nat_le (fewest ending) (length (b ∷ bits)) && nat_le (length (b ∷ bits)) (most ending)) (le_so 1 (length (b ∷ bits)) (omega arith))
          (and_both (nat_le (fewest ending) (length (b ∷ bits))) (nat_le (length (b ∷ bits)) (most ending)) (le_so (fewest ending) (length (b ∷ bits)) few.0) (le_so (length (b ∷ bits)) (most ending) few.1))

  abbrev Shown : List ℕ → Type 0
  Shown word = (bits : List Bool) × FitsEnding ending bits × (fits word (bits_text bits) ≡ true)

  some_shown : (word : List ℕ) (bits : List Bool) → fits word (map bit_digit bits) ≡ true → goes_on 0 bits ≡ true → may_have ending (0 + length bits) ≡ true → Shown word
  some_shown word [] f g m = absurd (true≢false (sym m))
  some_shown word (b ∷ bits) f g m =
      let same : 0 + length (b ∷ bits) ≡ length (b ∷ bits) = omega arith in
      let may = subst (λ (n : ℕ). may_have ending n ≡ true) same m in
      let within = second_of (nat_le 1 (length (b ∷ bits))) (nat_le (fewest ending) (length (b ∷ bits)) && nat_le (length (b ∷ bits)) (most ending)) may in
      let least = first_of (nat_le (fewest ending) (length (b ∷ bits))) (nat_le (length (b ∷ bits)) (most ending)) within in
      let greatest = second_of (nat_le (fewest ending) (length (b ∷ bits))) (nat_le (length (b ∷ bits)) (most ending)) within in
      (b ∷ bits, (so_le (fewest ending) (length (b ∷ bits)) least, so_le (length (b ∷ bits)) (most ending) greatest, g), f)

  word_shown : (word : List ℕ) → is_word_met ending word ≡ true → Shown word
  unfolding is_word_met
  word_shown word h = either ((fewest ending == 0) && fits word (codes "-")) (meets_bits ending 0 word) h
      (λ e. ([], (none_of (fewest ending) (first_of (fewest ending == 0) (fits word (codes "-")) e), omega arith, refl), second_of (fewest ending == 0) (fits word (codes "-")) e))
      (λ e. let r = bits_found ending word 0 e in some_shown word r.0 r.1 r.2 r.3)

-- bits with which a reading can end so
some_bits : (ending : Ending) → (bits : List Bool) × FitsEnding ending bits
some_bits Complete = ([], (omega arith, omega arith, refl))
some_bits Short = ([], (omega arith, omega arith, refl))
some_bits Silent = (false ∷ [], (omega arith, omega arith, refl))
some_bits BadStart = ([], (omega arith, omega arith, refl))
some_bits Long = let many = zeros_many Long 160 [] in (zeros Long 160 [], (omega (arith, many), omega (arith, many), zeros_go Long 160 0 [] refl))
some_bits Open = ([], (omega arith, omega arith, refl))

-- ---- and then the end of a line

abbrev word_of : List ℕ → List ℕ
word_of pattern = take (word_length pattern) pattern

abbrev rest_of : List ℕ → List ℕ
rest_of pattern = drop (word_length pattern) pattern

pub bits_decide : (who : Judged) (ending : Ending) → Decides (bits_met ending (tail_met who)) (BitsBefore who ending)
bits_decide who ending = record {
  only = λ pattern text t f.
      let begins = tail_begins who t.1 t.3 in
      let both = sym (parted t.1 begins pattern (bits_text t.0) (shown_plain t.0)) ∙ sym (ap (fits pattern) t.4) ∙ f in
      and_both (is_word_met ending (word_of pattern)) (tail_met who (rest_of pattern))
      (shown_met ending t.0 (word_of pattern) t.2 (first_of (fits (word_of pattern) (bits_text t.0)) (fits (rest_of pattern) t.1) both))
      ((tail_decides who).only (rest_of pattern) t.1 t.3 (second_of (fits (word_of pattern) (bits_text t.0)) (fits (rest_of pattern) t.1) both));
  some = λ pattern h.
      let s = word_shown ending (word_of pattern) (first_of (is_word_met ending (word_of pattern)) (tail_met who (rest_of pattern)) h) in
      let t = (tail_decides who).some (rest_of pattern) (second_of (is_word_met ending (word_of pattern)) (tail_met who (rest_of pattern)) h) in (
        bits_text s.0 ++ t.0,
        (s.0, t.0, s.1, t.1, refl),
        parted t.0 (tail_begins who t.0 t.1) pattern (bits_text s.0) (shown_plain s.0) ∙ and_both (fits (word_of pattern) (bits_text s.0)) (fits (rest_of pattern) t.0) s.2 t.2,
      );
  any = let b = some_bits ending in let t = (tail_decides who).any in (bits_text b.0 ++ t.0, (b.0, t.0, b.1, t.1, refl));
}
