-- The three bytes of four words of an audio line.
use Rattle.std.proofs.Common.{◌≡◌, ℕ, ◌+◌, ◌-◌, ◌*◌, ◌/◌, ◌%◌, ◌<◌, nat_le, nat_lt, ◌==◌, ◌&&◌, true, false, cond, List, [], ◌∷◌, Option, Some, None, Ok, refl, sym, ◌∙◌, ap, subst, arith}
use Rattle.std.specs.List.{list_all}
use Rattle.std.specs.Str.{bytes_eq}
use Rattle.std.proofs.lemmas.Bool.Decides.{nat_tests}
use Rattle.std.proofs.lemmas.Option.{none-some, same_Some}
use Rattle.text_core.specs.Number.{number_of}
use Rattle.edid_spelling.specs.Rows.{Row, stands_for}
use Rattle.edid_spelling.specs.Audio.{channels_of, descriptor_by, descriptor_of, descriptor_of_format, first_byte, format_rows, rate_rows, set_of, third_of}
use Rattle.meaning_cta.specs.Audio.{channel_count, format_number}

-- what is read of the bytes
pub record Back (format : Option ℕ) (count : Option ℕ) (rates : Option ℕ) (t : List ℕ) (a b d : ℕ) : Type 0 where
  pub format_is : format ≡ Some (format_number a)
  pub count_is : count ≡ Some (channel_count a b d)
  pub rates_are : rates ≡ Some b
  pub third_is : third_of (format_number a) t ≡ Some d

small_row : (rows : List Row) (word : List ℕ) (n : ℕ) → list_all (λ r. nat_lt r.number 15) rows ≡ true → stands_for rows word ≡ Some n → nat_lt n 15 ≡ true
small_row [] word n small e = absurd (none-some n e)
small_row (r ∷ rows) word n small e =
    elim (bytes_eq word r.word) as (λ b. cond b (Some r.number) (stands_for rows word) ≡ Some n → nat_lt n 15 ≡ true) [
      | true ↦ λ is. subst (λ m. nat_lt m 15 ≡ true) (same_Some r.number n is) (grind (arith, nat_tests))
      | false ↦ λ is. small_row rows word n (grind (arith, nat_tests)) is
    ] e

small_format : (word : List ℕ) (n : ℕ) → stands_for format_rows word ≡ Some n → nat_lt n 15 ≡ true
unfolding format_rows
small_format word n e = small_row format_rows word n refl e

counted : (count : Option ℕ) (others : ℕ) → channels_of count ≡ Some others → (count ≡ Some (others + 1)) × (others < 8)
counted None others e = absurd (none-some others e)
counted (Some n) others e =
    elim (nat_le 1 n && nat_le n 8) as (λ b. (nat_le 1 n && nat_le n 8) ≡ b → cond b (Some (n - 1)) None ≡ Some others → (Some n ≡ Some (others + 1)) × (others < 8)) [
      | true ↦ λ fits is.
          let same : n - 1 ≡ others = same_Some (n - 1) others is in
          let more : n ≡ others + 1 = grind (arith, nat_tests) in
          let few : others < 8 = grind (arith, nat_tests) in
          (ap Some more, few)
      | false ↦ λ fits is. absurd (none-some others is)
    ] refl e

-- a format and the channels less one, of the first byte
first_format : (n o : ℕ) → nat_lt n 15 ≡ true → o < 8 → format_number (first_byte n o) ≡ n
first_format n o small few =
    let low : n < 15 = grind (arith, nat_tests) in
    omega arith

first_count : (n o b d : ℕ) → nat_lt n 15 ≡ true → o < 8 → channel_count (first_byte n o) b d ≡ o + 1
first_count n o b d small few =
    let low : n < 15 = grind (arith, nat_tests) in
    let other : (format_number (first_byte n o) == 15) ≡ false = ap (λ m. m == 15) (first_format n o small few) ∙ grind (arith, nat_tests) in
    let count : first_byte n o % 8 + 1 ≡ o + 1 = omega arith in
    ap (λ t. cond (t && (d / 8 == 13)) (b / 128 * 16 + first_byte n o / 128 * 8 + first_byte n o % 8 + 1) (first_byte n o % 8 + 1)) other ∙ count

parts_back : (n : ℕ) (count : Option ℕ) (others rates third : Option ℕ) (t : List ℕ) (a b d : ℕ) → nat_lt n 15 ≡ true → channels_of count ≡ others → third_of n t ≡ third
    → descriptor_by n others rates third ≡ Ok (a ∷ b ∷ d ∷ []) → Back (Some n) count rates t a b d
parts_back n count None rates third t a b d small co th e = absurd cc
parts_back n count (Some o) None third t a b d small co th e = absurd cc
parts_back n count (Some o) (Some r) None t a b d small co th e = absurd cc
parts_back n count (Some o) (Some r) (Some s) t a b d small co th e =
    let ea : first_byte n o ≡ a = cc in
    let eb : r ≡ b = cc in
    let ed : s ≡ d = cc in
    let found = counted count o co in
    let format : format_number a ≡ n = ap format_number (sym ea) ∙ first_format n o small found.1 in
    let channels : channel_count a b d ≡ o + 1 = ap (λ x. channel_count x b d) (sym ea) ∙ first_count n o b d small found.1 in
    record {
      format_is = ap Some (sym format);
      count_is = found.0 ∙ ap Some (sym channels);
      rates_are = ap Some eb;
      third_is = subst (λ m. third_of m t ≡ Some d) (sym format) (th ∙ ap Some ed);
    }

format_back : (format : Option ℕ) (c r t : List ℕ) (a b d : ℕ) → ((n : ℕ) → format ≡ Some n → nat_lt n 15 ≡ true) → descriptor_of_format format c r t ≡ Ok (a ∷ b ∷ d ∷ [])
    → Back format (number_of c) (set_of rate_rows r) t a b d
format_back None c r t a b d small e = absurd cc
format_back (Some n) c r t a b d small e =
    parts_back n (number_of c) (channels_of (number_of c)) (set_of rate_rows r) (third_of n t) t a b d (small n refl) refl refl e

pub descriptor_back : (f c r t : List ℕ) (a b d : ℕ) → descriptor_of f c r t ≡ Ok (a ∷ b ∷ d ∷ []) → Back (stands_for format_rows f) (number_of c) (set_of rate_rows r) t a b d
unfolding descriptor_of
descriptor_back f c r t a b d e = format_back (stands_for format_rows f) c r t a b d (small_format f) e
