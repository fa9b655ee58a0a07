-- Each text that operands can have, in words or in hex, is that of some bytes.
use Rattle.std.proofs.Common.{◌≡◌, ℕ, zero, suc, ◌+◌, ◌-◌, ◌*◌, ◌/◌, ◌%◌, ◌<◌, ◌≤◌, nat_lt, nat_le, ◌&&◌, ◌⊎◌, inl, inr, Bool, true, false, if◌then◌else◌, codes, length, take, drop, List, [], ◌∷◌, ◌++◌, Option, Some, None, refl, sym, ap, subst, ◌∙◌, arith, true≢false}
use Rattle.std.proofs.lemmas.Bool.{cases_lt}
use Rattle.std.specs.Prelude.{option_map, unwrap_or, decimal}
use Rattle.std.specs.List.{list_all}
use Rattle.std.proofs.lemmas.Fmt.{decimal_digit}
use Rattle.std.proofs.lemmas.Grind.{common_steps}
use Rattle.std.proofs.lemmas.List.{append_assoc}
use Rattle.text_core.specs.Bytes.{are_bytes}
use Rattle.message_table.specs.Operands.{size_of}
use Rattle.message_table.specs.declared.operand.Operand.{Operand}
use Rattle.message_table.specs.declared.operand.Operand.TheVariants as operand
use Rattle.message_table.specs.declared.operand.Operands.{Operands}
use Rattle.message_table.specs.declared.operand.Operands.TheVariants as operands
use Rattle.message_table.specs.declared.word_set.WordSet.{WordSet}
use Rattle.message_text.specs.FrameText.{is_letter, is_text, is_text_byte, operand_word, operand_words, operands_text, quoted_text, raw_text, spaced_word, with_both}
use Rattle.expect_text.specs.Parts.{IsTextOf, has}
use Rattle.expect_text.specs.Said.{literal, operand_parts, operands_parts, quoted_parts, quoted_up_to, raw_but, raw_from, raw_parts, repeat, spoilt_at, spoilt_from, spoilt_operand, spoilt_parts, unworded_parts, volume_parts, worded_parts}
use Rattle.expect_text.specs.declared.part.PatternPart.{PatternPart}
use Rattle.expect_text.specs.declared.part.PatternPart.TheVariants.{Byte, One, Word}
use Rattle.expect_text.specs.declared.part.Worded.{Worded as Kinds}
use Rattle.expect_text.specs.declared.part.Worded.TheVariants.{Listed, Character, Quoted, Loudness}
use Rattle.expect_text.specs.declared.part.Class.TheVariants.{Digit, NonZero, Quotable}
use Rattle.expect_text.proofs.Meeting.{append_none}
use Rattle.expect_text.proofs.Readings.{Among, both_bytes, decimal_hundred, long_front}
use Rattle.expect_text.proofs.Sending.{decimal_two}
use Rattle.expect_text.proofs.Truth.{and_both, first_of, second_of}
use Rattle.expect_text.proofs.Splits.{halves, literal_was, class_was, split, head, nowhere, only, raw_was, IsSpoilt, below, up_to, above, spoilt_was, unlisted_none, word_was, operand_was, wrong_size}

-- ---- rows of operands in words

-- bytes whose text, as operands of this row, is this one
abbrev HasOperands : Operands → List ℕ → Type 0
HasOperands form t = (xs : List ℕ) × (are_bytes xs ≡ true) × (length xs ≤ 14) × (operands_text form xs ≡ t)

in_words : (form : Operands) (xs t : List ℕ) → are_bytes xs ≡ true → length xs ≤ 14 → operand_words form xs ≡ Some t → HasOperands form t
in_words form xs t h few e = (xs, h, few, ap (λ (o : Option (List ℕ)). unwrap_or o (raw_text xs)) e)

in_hex : (form : Operands) (xs t : List ℕ) → are_bytes xs ≡ true → length xs ≤ 14 → operand_words form xs ≡ None → t ≡ raw_text xs → HasOperands form t
in_hex form xs t h few e is = (xs, h, few, ap (λ (o : Option (List ℕ)). unwrap_or o (raw_text xs)) e ∙ sym is)

few_of : (o : Operand) → (1 ≤ size_of o) × (size_of o ≤ 3)
few_of operand.Byte = (omega arith, omega arith)
few_of (operand.Word set) = (omega arith, omega arith)
few_of operand.Language = (omega arith, omega arith)
few_of operand.Vendor = (omega arith, omega arith)
few_of operand.Address = (omega arith, omega arith)

optional_some : (o : Operand) (xs : List ℕ) (w : Option (List ℕ)) → 1 ≤ length xs → operand_word o xs ≡ w → operand_words (operands.Optional o) xs ≡ w
optional_some o [] w l e = absurd (omega (arith, l))
optional_some o (x ∷ xs) w l e = e

take_front : (xs ys : List ℕ) (n : ℕ) → length xs ≡ n → take n (xs ++ ys) ≡ xs
take_front [] ys zero e = refl
take_front [] ys (suc n) e = absurd (omega (arith, e))
take_front (x ∷ xs) ys zero e = absurd (omega (arith, e))
take_front (x ∷ xs) ys (suc n) e = ap (λ (t : List ℕ). x ∷ t) (take_front xs ys n (omega (arith, e)))

drop_front : (xs ys : List ℕ) (n : ℕ) → length xs ≡ n → drop n (xs ++ ys) ≡ ys
drop_front [] ys zero e = refl
drop_front [] ys (suc n) e = absurd (omega (arith, e))
drop_front (x ∷ xs) ys zero e = absurd (omega (arith, e))
drop_front (x ∷ xs) ys (suc n) e = drop_front xs ys n (omega (arith, e))

two_are : (first second : Operand) (xs ys : List ℕ) (o p : Option (List ℕ)) → length xs ≡ size_of first → operand_word first xs ≡ o → operand_word second ys ≡ p
    → operand_words (operands.Two first second) (xs ++ ys) ≡ with_both o p
two_are first second xs ys o p l e f =
    ap (λ (t : List ℕ). with_both (operand_word first t) (operand_word second (drop (size_of first) (xs ++ ys)))) (take_front xs ys (size_of first) l)
    ∙ ap (λ (t : List ℕ). with_both (operand_word first xs) (operand_word second t)) (drop_front xs ys (size_of first) l)
    ∙ ap (λ (x : Option (List ℕ)). with_both x (operand_word second ys)) e ∙ ap (λ (x : Option (List ℕ)). with_both o x) f

two_worded : (first second : Operand) (t : List ℕ) → IsTextOf (operand_parts first ++ operand_parts second) t → HasOperands (operands.Two first second) t
two_worded first second t s =
    let d = halves (operand_parts first) (operand_parts second) t s in
    let a = operand_was first d.0 d.2 in
    let b = operand_was second d.1 d.3 in
    let few = few_of first in
    let least = few_of second in
    in_words (operands.Two first second) (a.0 ++ b.0) t (both_bytes a.0 b.0 a.1 b.1) (omega (arith, long_front a.0 b.0, a.2, b.2, few.1, least.1))
    (two_are first second a.0 b.0 (Some d.0) (Some d.1) a.2 a.3 b.3 ∙ ap (λ (x : List ℕ). Some x) (sym d.4))

-- a volume up to 100
digit_value : (b : ℕ) → has Digit b ≡ true → (b - 48 < 10) × (48 + (b - 48) ≡ b)
digit_value b h =
    let least : 48 ≤ b = grind (arith, common_steps) in
    let most : b ≤ 57 = grind (arith, common_steps) in
    (omega (arith, least, most), omega (arith, least))

nonzero_value : (b : ℕ) → has NonZero b ≡ true → (1 ≤ b - 48) × (b - 48 < 10) × (48 + (b - 48) ≡ b)
nonzero_value b h =
    let least : 49 ≤ b = grind (arith, common_steps) in
    let most : b ≤ 57 = grind (arith, common_steps) in
    (omega (arith, least), omega (arith, least, most), omega (arith, least))

abbrev IsLoud : List ℕ → List ℕ → Type 0
IsLoud word t = (n : ℕ) × (n ≤ 100) × (t ≡ word ++ decimal n)

one_digit : (word t : List ℕ) → IsTextOf (literal word ++ One Digit ∷ []) t → IsLoud word t
one_digit word t s =
    let d = halves (literal word) (One Digit ∷ []) t s in
    let b = d.3.0 in
    let v = digit_value b d.3.2 in
    let is : d.1 ≡ decimal (b - 48) = d.3.3 ∙ ap (λ (x : List ℕ). b ∷ x) d.3.4 ∙ sym (decimal_digit (b - 48) v.0 ∙ ap (λ (x : ℕ). x ∷ []) v.1) in
    (b - 48, omega (arith, v.0), d.4 ∙ ap (λ (x : List ℕ). x ++ d.1) (literal_was word d.0 d.2) ∙ ap (λ (x : List ℕ). word ++ x) is)

two_digits_were : (word t : List ℕ) → IsTextOf (literal word ++ One NonZero ∷ One Digit ∷ []) t → IsLoud word t
two_digits_were word t s =
    let d = halves (literal word) (One NonZero ∷ One Digit ∷ []) t s in
    let a = d.3.0 in
    let b = d.3.4.0 in
    let v = nonzero_value a d.3.2 in
    let w = digit_value b d.3.4.2 in
    let n = (a - 48) * 10 + (b - 48) in
    let up : n / 10 ≡ a - 48 = omega (arith, w.0) in
    let down : n % 10 ≡ b - 48 = omega (arith, w.0) in
    let text : decimal n ≡ a ∷ b ∷ [] =
    decimal_two n (omega (arith, v.0)) (omega (arith, v.1, w.0)) ∙ ap (λ (x : ℕ). (48 + x) ∷ (48 + n % 10) ∷ []) up ∙ ap (λ (x : ℕ). (48 + (a - 48)) ∷ (48 + x) ∷ []) down
    ∙ ap (λ (x : ℕ). x ∷ (48 + (b - 48)) ∷ []) v.2 ∙ ap (λ (x : ℕ). a ∷ x ∷ []) w.1 in
    let is : d.1 ≡ decimal n = d.3.3 ∙ ap (λ (x : List ℕ). a ∷ x) (d.3.4.3 ∙ ap (λ (x : List ℕ). b ∷ x) d.3.4.4) ∙ sym text in
    (n, omega (arith, v.1, w.0), d.4 ∙ ap (λ (x : List ℕ). x ++ d.1) (literal_was word d.0 d.2) ∙ ap (λ (x : List ℕ). word ++ x) is)

hundred_was : (word t : List ℕ) → IsTextOf (literal word ++ literal (codes "100")) t → IsLoud word t
hundred_was word t s =
    let d = halves (literal word) (literal (codes "100")) t s in
    let is : d.1 ≡ decimal 100 = literal_was (codes "100") d.1 d.3 ∙ sym (decimal_hundred 100 refl) in
    (100, omega arith, d.4 ∙ ap (λ (x : List ℕ). x ++ d.1) (literal_was word d.0 d.2) ∙ ap (λ (x : List ℕ). word ++ x) is)

loud_was : (word t : List ℕ) → Among (volume_parts word) t → IsLoud word t
loud_was word t r = first (head (literal word ++ One Digit ∷ []) ((literal word ++ One NonZero ∷ One Digit ∷ []) ∷ (literal word ++ literal (codes "100")) ∷ []) t r)
  where
    second : IsTextOf (literal word ++ One NonZero ∷ One Digit ∷ []) t ⊎ Among ((literal word ++ literal (codes "100")) ∷ []) t → IsLoud word t
    second (inl s) = two_digits_were word t s
    second (inr s) = hundred_was word t (only (literal word ++ literal (codes "100")) t s)

    first : IsTextOf (literal word ++ One Digit ∷ []) t ⊎ Among ((literal word ++ One NonZero ∷ One Digit ∷ []) ∷ (literal word ++ literal (codes "100")) ∷ []) t → IsLoud word t
    first (inl s) = one_digit word t s
    first (inr s) = second (head (literal word ++ One NonZero ∷ One Digit ∷ []) ((literal word ++ literal (codes "100")) ∷ []) t s)

volume_word : (status n : ℕ) (muted : Bool) → status % 128 ≡ n → nat_le (status % 128) 100 ≡ true → nat_le 128 status ≡ muted
    → operand_words operands.Volume (status ∷ []) ≡ Some ((if muted then codes " mute " else codes " sound ") ++ decimal n)
volume_word status n muted e h k =
    ap (λ (c : Bool). if c then Some ((if nat_le 128 status then codes " mute " else codes " sound ") ++ decimal (status % 128)) else None) h
    ∙ ap (λ (c : Bool). Some ((if c then codes " mute " else codes " sound ") ++ decimal (status % 128))) k
    ∙ ap (λ (x : ℕ). Some ((if muted then codes " mute " else codes " sound ") ++ decimal x)) e

volume_worded : (t : List ℕ) → Among (volume_parts (codes " mute ") ++ volume_parts (codes " sound ")) t → HasOperands operands.Volume t
volume_worded t r = by (split (volume_parts (codes " mute ")) (volume_parts (codes " sound ")) t r)
  where
    by : Among (volume_parts (codes " mute ")) t ⊎ Among (volume_parts (codes " sound ")) t → HasOperands operands.Volume t
    by (inl s) =
        let v = loud_was (codes " mute ") t s in
        let n = v.0 in
        let l : n ≤ 100 = v.1 in
        let down : (128 + n) % 128 ≡ n = omega (arith, l) in
        let least : 128 ≤ 128 + n = omega arith in
        in_words operands.Volume ((128 + n) ∷ []) t (and_both (nat_lt (128 + n) 256) true (below (128 + n) 256 (omega (arith, l))) refl) (omega arith)
        (volume_word (128 + n) n true down (up_to ((128 + n) % 128) 100 (omega (arith, l))) (up_to 128 (128 + n) least) ∙ ap (λ (x : List ℕ). Some x) (sym v.2))
    by (inr s) =
        let v = loud_was (codes " sound ") t s in
        let n = v.0 in
        let l : n ≤ 100 = v.1 in
        let down : n % 128 ≡ n = omega (arith, l) in
        in_words operands.Volume (n ∷ []) t (and_both (nat_lt n 256) true (below n 256 (omega (arith, l))) refl) (omega arith)
        (volume_word n n false down (up_to (n % 128) 100 (omega (arith, l))) (above 128 n (omega (arith, l))) ∙ ap (λ (x : List ℕ). Some x) (sym v.2))

-- a text in quotes
quotable : (xs : List ℕ) → list_all (has Quotable) xs ≡ true → list_all is_text_byte xs ≡ true
quotable [] h = refl
quotable (x ∷ xs) h =
    and_both (is_text_byte x) (list_all is_text_byte xs) (first_of (has Quotable x) (list_all (has Quotable) xs) h) (quotable xs (second_of (has Quotable x) (list_all (has Quotable) xs) h))

a_character : (b : ℕ) → is_text_byte b ≡ true → nat_lt b 256 ≡ true
a_character b h = grind (arith, common_steps)

characters : (xs : List ℕ) → list_all is_text_byte xs ≡ true → are_bytes xs ≡ true
characters [] h = refl
characters (x ∷ xs) h =
    and_both (nat_lt x 256) (are_bytes xs) (a_character x (first_of (is_text_byte x) (list_all is_text_byte xs) h)) (characters xs (second_of (is_text_byte x) (list_all is_text_byte xs) h))

quoted_was : (n : ℕ) (t : List ℕ) → IsTextOf (quoted_parts n) t → (xs : List ℕ) × (length xs ≡ n) × (list_all is_text_byte xs ≡ true) × (t ≡ quoted_text xs)
unfolding quoted_parts
quoted_was n t s =
    let d = halves (repeat n (One Quotable)) (Byte 34 ∷ []) s.2.0 s.2.2 in
    let c = class_was Quotable n d.0 d.2 in
    let end : d.1 ≡ 34 ∷ [] = d.3.1 ∙ ap (λ (x : List ℕ). 34 ∷ x) d.3.2 in
    (d.0, c.0, quotable d.0 c.1, s.1 ∙ ap (λ (x : List ℕ). 32 ∷ x) (s.2.1 ∙ ap (λ (x : List ℕ). 34 ∷ x) (d.4 ∙ ap (λ (x : List ℕ). d.0 ++ x) end)))

quoted_up_was : (front : List PatternPart) (most : ℕ) (t : List ℕ) → Among (quoted_up_to front most) t → (n : ℕ) × (1 ≤ n) × (n ≤ most) × IsTextOf (front ++ quoted_parts n) t
quoted_up_was front zero t r = nowhere t r
quoted_up_was front (suc most) t r = by (head (front ++ quoted_parts (suc most)) (quoted_up_to front most) t r) (quoted_up_was front most t)
  where
    by : IsTextOf (front ++ quoted_parts (suc most)) t ⊎ Among (quoted_up_to front most) t
        → (Among (quoted_up_to front most) t → (n : ℕ) × (1 ≤ n) × (n ≤ most) × IsTextOf (front ++ quoted_parts n) t)
        → (n : ℕ) × (1 ≤ n) × (n ≤ suc most) × IsTextOf (front ++ quoted_parts n) t
    by (inl is) later = (suc most, omega arith, omega arith, is)
    by (inr s) later = let q = later s in (q.0, q.1, omega (arith, q.2), q.3)

is_a_text : (most : ℕ) (xs : List ℕ) → 1 ≤ length xs → length xs ≤ most → list_all is_text_byte xs ≡ true → is_text most xs ≡ true
is_a_text most xs least few h =
    and_both (nat_le 1 (length xs) && nat_le (length xs) most) (list_all is_text_byte xs)
    (and_both (nat_le 1 (length xs)) (nat_le (length xs) most) (up_to 1 (length xs) least) (up_to (length xs) most few)) h

text_worded : (t : List ℕ) → Among (quoted_up_to [] 14) t → HasOperands operands.Text t
text_worded t r =
    let q = quoted_up_was [] 14 t r in
    let s = quoted_was q.0 t q.3 in
    let least : 1 ≤ length s.0 = omega (arith, s.1, q.1) in
    let few : length s.0 ≤ 14 = omega (arith, s.1, q.2) in
    in_words operands.Text s.0 t (characters s.0 s.2) few
    (ap (λ (c : Bool). if c then Some (quoted_text s.0) else None) (is_a_text 14 s.0 least few s.2) ∙ ap (λ (x : List ℕ). Some x) (sym s.3))

-- the words of a byte and a text
word_text : (set : WordSet) (byte : ℕ) (xs w : List ℕ) → spaced_word set byte ≡ Some w → 1 ≤ length xs → length xs ≤ 13 → list_all is_text_byte xs ≡ true
    → operand_words (operands.WordAndText set) (byte ∷ xs) ≡ Some (w ++ quoted_text xs)
word_text set byte [] w e least few h = absurd (omega (arith, least))
word_text set byte (x ∷ xs) w e least few h =
    ap (λ (c : Bool). if c then option_map (λ (w : List ℕ). w ++ quoted_text (x ∷ xs)) (spaced_word set byte) else None) (is_a_text 13 (x ∷ xs) least few h)
    ∙ ap (λ (o : Option (List ℕ)). option_map (λ (w : List ℕ). w ++ quoted_text (x ∷ xs)) o) e

both_worded : (set : WordSet) (t : List ℕ) → Among ((Byte 32 ∷ Word set ∷ []) ∷ quoted_up_to (Byte 32 ∷ Word set ∷ []) 13) t → HasOperands (operands.WordAndText set) t
both_worded set t r = by (head (Byte 32 ∷ Word set ∷ []) (quoted_up_to (Byte 32 ∷ Word set ∷ []) 13) t r)
  where
    by : IsTextOf (Byte 32 ∷ Word set ∷ []) t ⊎ Among (quoted_up_to (Byte 32 ∷ Word set ∷ []) 13) t → HasOperands (operands.WordAndText set) t
    by (inl s) = let w = word_was set t s in in_words (operands.WordAndText set) (w.0 ∷ []) t (and_both (nat_lt w.0 256) true w.1 refl) (omega arith) w.2
    by (inr s) =
        let q = quoted_up_was (Byte 32 ∷ Word set ∷ []) 13 t s in
        let d = halves (Byte 32 ∷ Word set ∷ []) (quoted_parts q.0) t q.3 in
        let w = word_was set d.0 d.2 in
        let k = quoted_was q.0 d.1 d.3 in
        let few : length k.0 ≤ 13 = omega (arith, k.1, q.2) in
        in_words (operands.WordAndText set) (w.0 ∷ k.0) t (and_both (nat_lt w.0 256) (are_bytes k.0) w.1 (characters k.0 k.2)) (omega (arith, few))
        (word_text set w.0 k.0 d.0 w.2 (omega (arith, k.1, q.1)) few k.2 ∙ ap (λ (x : List ℕ). Some x) (sym (d.4 ∙ ap (λ (x : List ℕ). d.0 ++ x) k.3)))

optional_worded : (only : Operand) (t : List ℕ) → IsTextOf [] t ⊎ IsTextOf (operand_parts only) t → HasOperands (operands.Optional only) t
optional_worded only t (inl is) = in_words (operands.Optional only) [] t refl (omega arith) (ap (λ (x : List ℕ). Some x) (sym is))
optional_worded only t (inr s) =
    let r = operand_was only t s in
    let few = few_of only in
    in_words (operands.Optional only) r.0 t r.1 (omega (arith, r.2, few.1)) (optional_some only r.0 (Some t) (omega (arith, r.2, few.0)) r.3)

one_worded : (o : Operand) (t : List ℕ) → IsTextOf (operand_parts o) t → HasOperands (operands.One o) t
one_worded o t s =
    let r = operand_was o t s in
    let few = few_of o in
    in_words (operands.One o) r.0 t r.1 (omega (arith, r.2, few.1)) r.3

or_only : (x y : List PatternPart) (t : List ℕ) → Among (x ∷ y ∷ []) t → IsTextOf x t ⊎ IsTextOf y t
or_only x y t r = by (head x (y ∷ []) t r)
  where
    by : IsTextOf x t ⊎ Among (y ∷ []) t → IsTextOf x t ⊎ IsTextOf y t
    by (inl is) = inl is
    by (inr s) = inr (only y t s)

worded : (form : Operands) (t : List ℕ) → Among (worded_parts form) t → HasOperands form t
worded operands.Raw t r = nowhere t r
worded operands.Nothing t r = in_words operands.Nothing [] t refl (omega arith) (ap (λ (x : List ℕ). Some x) (sym (only [] t r)))
worded (operands.One o) t r = one_worded o t (only (operand_parts o) t r)
worded (operands.Optional o) t r = optional_worded o t (or_only [] (operand_parts o) t r)
worded (operands.Two first second) t r = two_worded first second t (only (operand_parts first ++ operand_parts second) t r)
worded operands.Volume t r = volume_worded t r
worded operands.Text t r = text_worded t r
worded (operands.WordAndText set) t r = both_worded set t r

-- ---- operands that do not fit their row

raw_from_was : (least count : ℕ) (t : List ℕ) → Among (raw_from least count) t
    → (xs : List ℕ) × (are_bytes xs ≡ true) × (least ≤ length xs) × (length xs < least + count) × (t ≡ raw_text xs)
raw_from_was least zero t r = nowhere t r
raw_from_was least (suc count) t r = by (head (raw_parts least) (raw_from (least + 1) count) t r) (raw_from_was (least + 1) count t)
  where
    by : IsTextOf (raw_parts least) t ⊎ Among (raw_from (least + 1) count) t
        → (Among (raw_from (least + 1) count) t → (xs : List ℕ) × (are_bytes xs ≡ true) × (least + 1 ≤ length xs) × (length xs < least + 1 + count) × (t ≡ raw_text xs))
        → (xs : List ℕ) × (are_bytes xs ≡ true) × (least ≤ length xs) × (length xs < least + suc count) × (t ≡ raw_text xs)
    by (inl s) later = let w = raw_was least t s in (w.0, w.1, omega (arith, w.2), omega (arith, w.2), w.3)
    by (inr s) later = let w = later s in (w.0, w.1, omega (arith, w.2), omega (arith, w.3), w.4)

-- bytes of another number
abbrev IsOther : ℕ → List ℕ → Type 0
IsOther n xs = (length xs < n) ⊎ (n < length xs)

raw_but_was : (n : ℕ) (t : List ℕ) → n ≤ 14 → Among (raw_but n) t
    → (xs : List ℕ) × (are_bytes xs ≡ true) × IsOther n xs × (length xs ≤ 14) × (t ≡ raw_text xs)
raw_but_was n t few r = by (split (raw_from 0 n) (raw_from (n + 1) (14 - n)) t r)
  where
    by : Among (raw_from 0 n) t ⊎ Among (raw_from (n + 1) (14 - n)) t → (xs : List ℕ) × (are_bytes xs ≡ true) × IsOther n xs × (length xs ≤ 14) × (t ≡ raw_text xs)
    by (inl s) = let w = raw_from_was 0 n t s in (w.0, w.1, inl (omega (arith, w.3)), omega (arith, w.3, few), w.4)
    by (inr s) = let w = raw_from_was (n + 1) (14 - n) t s in (w.0, w.1, inr (omega (arith, w.2)), omega (arith, w.3, few), w.4)

spoilt_at_was : (before : ℕ) (kind : Kinds) (count : ℕ) (t : List ℕ) → Among (spoilt_at before kind count) t → (after : ℕ) × (after < count) × IsTextOf (spoilt_parts before kind after) t
spoilt_at_was before kind zero t r = nowhere t r
spoilt_at_was before kind (suc count) t r = by (head (spoilt_parts before kind count) (spoilt_at before kind count) t r) (spoilt_at_was before kind count t)
  where
    by : IsTextOf (spoilt_parts before kind count) t ⊎ Among (spoilt_at before kind count) t
        → (Among (spoilt_at before kind count) t → (after : ℕ) × (after < count) × IsTextOf (spoilt_parts before kind after) t)
        → (after : ℕ) × (after < suc count) × IsTextOf (spoilt_parts before kind after) t
    by (inl s) later = (count, omega arith, s)
    by (inr s) later = let w = later s in (w.0, omega (arith, w.1), w.2)

spoilt_from_was : (before : ℕ) (kind : Kinds) (count : ℕ) (t : List ℕ) → Among (spoilt_from before kind count) t
    → (place after : ℕ) × (before ≤ place) × (place + after < before + count) × IsTextOf (spoilt_parts place kind after) t
spoilt_from_was before kind zero t r = nowhere t r
spoilt_from_was before kind (suc count) t r = by (split (spoilt_at before kind (suc count)) (spoilt_from (before + 1) kind count) t r) (spoilt_from_was (before + 1) kind count t)
  where
    by : Among (spoilt_at before kind (suc count)) t ⊎ Among (spoilt_from (before + 1) kind count) t
        → (Among (spoilt_from (before + 1) kind count) t → (place after : ℕ) × (before + 1 ≤ place) × (place + after < before + 1 + count) × IsTextOf (spoilt_parts place kind after) t)
        → (place after : ℕ) × (before ≤ place) × (place + after < before + suc count) × IsTextOf (spoilt_parts place kind after) t
    by (inl s) later = let w = spoilt_at_was before kind (suc count) t s in (before, w.0, omega arith, omega (arith, w.1), w.2)
    by (inr s) later = let w = later s in (w.0, w.1, omega (arith, w.2), omega (arith, w.3), w.4)

not_all : (is_so : ℕ → Bool) (front : List ℕ) (b : ℕ) (back : List ℕ) → is_so b ≡ false → list_all is_so (front ++ b ∷ back) ≡ false
not_all is_so [] b back h = ap (λ (c : Bool). c && list_all is_so back) h
not_all is_so (x ∷ xs) b back h = ap (λ (c : Bool). is_so x && c) (not_all is_so xs b back h) ∙ and_false (is_so x)
  where
    and_false : (c : Bool) → (c && false) ≡ false
    and_false true = refl
    and_false false = refl

no_language : (xs : List ℕ) → list_all is_letter xs ≡ false → operand_word operand.Language xs ≡ None
no_language [] h = refl
no_language (a ∷ []) h = refl
no_language (a ∷ b ∷ []) h = refl
no_language (a ∷ b ∷ c ∷ []) h = by (is_letter a) (is_letter b) (is_letter c) h
  where
    by : (x y z : Bool) → (x && (y && (z && true))) ≡ false → (if x && y && z then Some (32 ∷ a ∷ b ∷ c ∷ []) else None) ≡ None
    by true true true h = absurd (true≢false h)
    by true true false h = refl
    by true false z h = refl
    by false y z h = refl
no_language (a ∷ b ∷ c ∷ d ∷ xs) h = refl

-- a text is its first bytes, so many, and the others
cut : (n k : ℕ) (xs : List ℕ) → length xs ≡ n + k → (front back : List ℕ) × (length front ≡ n) × (length back ≡ k) × (xs ≡ front ++ back)
cut zero k xs e = ([], xs, refl, omega (arith, e), refl)
cut (suc n) k [] e = absurd (omega (arith, e))
cut (suc n) k (x ∷ xs) e = let r = cut n k xs (omega (arith, e)) in (x ∷ r.0, r.1, omega (arith, r.2), r.3, ap (λ (t : List ℕ). x ∷ t) r.4)

-- an operand that has no word, between so many bytes
abbrev IsWordless : ℕ → Operand → ℕ → List ℕ → Type 0
IsWordless before o after t =
    (front mid back : List ℕ) × (length front ≡ before) × (length mid ≡ size_of o) × (length back ≡ after) × (are_bytes (front ++ (mid ++ back)) ≡ true)
    × (operand_word o mid ≡ None) × (t ≡ raw_text (front ++ (mid ++ back)))

character_was : (before i j after p q : ℕ) (t : List ℕ) → p ≡ before + i → q ≡ j + after → i + 1 + j ≡ 3 → IsTextOf (spoilt_parts p Character q) t → IsWordless before operand.Language after t
character_was before i j after p q t e f three s =
    let w = spoilt_was p Character q t s in
    let fs = w.5 in
    let d = cut before i w.0 (w.3 ∙ e) in
    let k = cut j after w.2 (w.4 ∙ f) in
    let mid = d.1 ++ w.1 ∷ k.0 in
    let same : w.0 ++ w.1 ∷ w.2 ≡ d.0 ++ (mid ++ k.1) =
    ap (λ (x : List ℕ). x ++ w.1 ∷ w.2) d.4 ∙ ap (λ (x : List ℕ). (d.0 ++ d.1) ++ w.1 ∷ x) k.4 ∙ append_assoc d.0 d.1 (w.1 ∷ (k.0 ++ k.1))
    ∙ ap (λ (x : List ℕ). d.0 ++ x) (sym (append_assoc d.1 (w.1 ∷ k.0) k.1)) in
    let bytes = both_bytes w.0 (w.1 ∷ w.2) fs.0 (and_both (nat_lt w.1 256) (are_bytes w.2) fs.1 fs.2) in (
      d.0,
      mid,
      k.1,
      d.2,
      omega (arith, long_front d.1 (w.1 ∷ k.0), d.3, k.2, three),
      k.3,
      subst (λ (x : List ℕ). are_bytes x ≡ true) same bytes,
      no_language mid (not_all is_letter d.1 w.1 k.0 fs.3),
      fs.4 ∙ ap raw_text same,
    )

listed_was : (before : ℕ) (set : WordSet) (after : ℕ) (t : List ℕ) → IsTextOf (spoilt_parts before (Listed set) after) t → IsWordless before (operand.Word set) after t
listed_was before set after t s =
    let w = spoilt_was before (Listed set) after t s in
    let fs = w.5 in (
      w.0,
      w.1 ∷ [],
      w.2,
      w.3,
      refl,
      w.4,
      both_bytes w.0 (w.1 ∷ w.2) fs.0 (and_both (nat_lt w.1 256) (are_bytes w.2) fs.1 fs.2),
      unlisted_none set w.1 fs.3,
      fs.4,
    )

spoilt_operand_was : (before : ℕ) (o : Operand) (after : ℕ) (t : List ℕ) → Among (spoilt_operand before o after) t → IsWordless before o after t
spoilt_operand_was before operand.Byte after t r = nowhere t r
spoilt_operand_was before (operand.Word set) after t r = listed_was before set after t (only (spoilt_parts before (Listed set) after) t r)
spoilt_operand_was before operand.Language after t r =
    first (head (spoilt_parts before Character (2 + after)) (spoilt_parts (before + 1) Character (1 + after) ∷ spoilt_parts (before + 2) Character after ∷ []) t r)
  where
    later : IsTextOf (spoilt_parts (before + 1) Character (1 + after)) t ⊎ IsTextOf (spoilt_parts (before + 2) Character after) t → IsWordless before operand.Language after t
    later (inl s) = character_was before 1 1 after (before + 1) (1 + after) t refl refl (omega arith) s
    later (inr s) = character_was before 2 0 after (before + 2) after t refl (omega arith) (omega arith) s

    first : IsTextOf (spoilt_parts before Character (2 + after)) t ⊎ Among (spoilt_parts (before + 1) Character (1 + after) ∷ spoilt_parts (before + 2) Character after ∷ []) t
        → IsWordless before operand.Language after t
    first (inl s) = character_was before 0 2 after before (2 + after) t (omega arith) refl (omega arith) s
    first (inr s) = later (or_only (spoilt_parts (before + 1) Character (1 + after)) (spoilt_parts (before + 2) Character after) t s)
spoilt_operand_was before operand.Vendor after t r = nowhere t r
spoilt_operand_was before operand.Address after t r = nowhere t r

empty : (xs : List ℕ) → length xs ≡ 0 → xs ≡ []
empty [] e = refl
empty (x ∷ xs) e = absurd (omega (arith, e))

alone : (front mid back : List ℕ) → length front ≡ 0 → length back ≡ 0 → front ++ (mid ++ back) ≡ mid
alone front mid back e f = ap (λ (x : List ℕ). x ++ (mid ++ back)) (empty front e) ∙ ap (λ (x : List ℕ). mid ++ x) (empty back f) ∙ append_none mid

one_unworded : (o : Operand) (t : List ℕ) → Among (raw_but (size_of o)) t ⊎ Among (spoilt_operand 0 o 0) t → HasOperands (operands.One o) t
one_unworded o t (inl s) =
    let few = few_of o in
    let w = raw_but_was (size_of o) t (omega (arith, few.1)) s in
    in_hex (operands.One o) w.0 t w.1 w.3 (wrong_size o w.0 w.2) w.4
one_unworded o t (inr s) =
    let few = few_of o in
    let w = spoilt_operand_was 0 o 0 t s in
    let same = alone w.0 w.1 w.2 w.3 w.5 in
    in_hex (operands.One o) w.1 t (subst (λ (x : List ℕ). are_bytes x ≡ true) same w.6) (omega (arith, w.4, few.1)) w.7 (w.8 ∙ ap raw_text same)

optional_unworded : (o : Operand) (t : List ℕ) → Among (raw_from 1 (size_of o - 1)) t ⊎ (Among (raw_from (size_of o + 1) (14 - size_of o)) t ⊎ Among (spoilt_operand 0 o 0) t)
    → HasOperands (operands.Optional o) t
optional_unworded o t (inl s) =
    let few = few_of o in
    let w = raw_from_was 1 (size_of o - 1) t s in
    in_hex (operands.Optional o) w.0 t w.1 (omega (arith, w.3, few.1, few.0)) (optional_some o w.0 None w.2 (wrong_size o w.0 (inl (omega (arith, w.3, few.0))))) w.4
optional_unworded o t (inr (inl s)) =
    let few = few_of o in
    let w = raw_from_was (size_of o + 1) (14 - size_of o) t s in
    in_hex (operands.Optional o) w.0 t w.1 (omega (arith, w.3, few.1)) (optional_some o w.0 None (omega (arith, w.2)) (wrong_size o w.0 (inr (omega (arith, w.2))))) w.4
optional_unworded o t (inr (inr s)) =
    let few = few_of o in
    let w = spoilt_operand_was 0 o 0 t s in
    let same = alone w.0 w.1 w.2 w.3 w.5 in
    in_hex (operands.Optional o) w.1 t (subst (λ (x : List ℕ). are_bytes x ≡ true) same w.6) (omega (arith, w.4, few.1)) (optional_some o w.1 None (omega (arith, w.4, few.0)) w.7) (w.8 ∙ ap raw_text same)

-- of two
none_second : (o : Option (List ℕ)) → with_both o None ≡ None
none_second None = refl
none_second (Some x) = refl

none_first : (o : Option (List ℕ)) → with_both None o ≡ None
none_first None = refl
none_first (Some x) = refl

take_less : (n : ℕ) (xs : List ℕ) → length xs < n → length (take n xs) < n
take_less zero xs l = absurd (omega (arith, l))
take_less (suc n) [] l = omega arith
take_less (suc n) (x ∷ xs) l = let r = take_less n xs (omega (arith, l)) in omega (arith, r)

two_none : (first second : Operand) (xs : List ℕ) → IsOther (size_of first + size_of second) xs → operand_words (operands.Two first second) xs ≡ None
two_none first second xs other = by (cases_lt (length xs) (size_of first)) other
  where
    rest : (k : ℕ) → length xs ≡ size_of first + k → (k < size_of second) ⊎ (size_of second < k) → operand_words (operands.Two first second) xs ≡ None
    rest k e l =
        let d = cut (size_of first) k xs e in
        let wrong : operand_word second d.1 ≡ None = wrong_size second d.1 (sized l d.3) in
        ap (operand_words (operands.Two first second)) d.4 ∙ two_are first second d.0 d.1 (operand_word first d.0) None d.2 refl wrong ∙ none_second (operand_word first d.0)
      where
        sized : {m : ℕ} → (k < size_of second) ⊎ (size_of second < k) → m ≡ k → (m < size_of second) ⊎ (size_of second < m)
        sized (inl l) e = inl (omega (arith, l, e))
        sized (inr l) e = inr (omega (arith, l, e))

    by : (length xs < size_of first) ⊎ (size_of first ≤ length xs) → IsOther (size_of first + size_of second) xs → operand_words (operands.Two first second) xs ≡ None
    by (inl l) o =
        ap (λ (w : Option (List ℕ)). with_both w (operand_word second (drop (size_of first) xs))) (wrong_size first (take (size_of first) xs) (inl (take_less (size_of first) xs l)))
        ∙ none_first (operand_word second (drop (size_of first) xs))
    by (inr l) (inl o) = rest (length xs - size_of first) (omega (arith, l)) (inl (omega (arith, o, l)))
    by (inr l) (inr o) = rest (length xs - size_of first) (omega (arith, l)) (inr (omega (arith, o, l)))

two_unworded : (first second : Operand) (t : List ℕ)
    → Among (raw_but (size_of first + size_of second)) t ⊎ (Among (spoilt_operand 0 first (size_of second)) t ⊎ Among (spoilt_operand (size_of first) second 0) t)
    → HasOperands (operands.Two first second) t
two_unworded first second t (inl s) =
    let few = few_of first in
    let more = few_of second in
    let w = raw_but_was (size_of first + size_of second) t (omega (arith, few.1, more.1)) s in
    in_hex (operands.Two first second) w.0 t w.1 w.3 (two_none first second w.0 w.2) w.4
two_unworded first second t (inr (inl s)) =
    let few = few_of first in
    let more = few_of second in
    let w = spoilt_operand_was 0 first (size_of second) t s in
    let same : w.0 ++ (w.1 ++ w.2) ≡ w.1 ++ w.2 = ap (λ (x : List ℕ). x ++ (w.1 ++ w.2)) (empty w.0 w.3) in
    in_hex (operands.Two first second) (w.1 ++ w.2) t (subst (λ (x : List ℕ). are_bytes x ≡ true) same w.6) (omega (arith, long_front w.1 w.2, w.4, w.5, few.1, more.1))
    (two_are first second w.1 w.2 None (operand_word second w.2) w.4 w.7 refl ∙ none_first (operand_word second w.2)) (w.8 ∙ ap raw_text same)
two_unworded first second t (inr (inr s)) =
    let few = few_of first in
    let more = few_of second in
    let w = spoilt_operand_was (size_of first) second 0 t s in
    let same : w.0 ++ (w.1 ++ w.2) ≡ w.0 ++ w.1 = ap (λ (x : List ℕ). w.0 ++ (w.1 ++ x)) (empty w.2 w.5) ∙ ap (λ (x : List ℕ). w.0 ++ x) (append_none w.1) in
    in_hex (operands.Two first second) (w.0 ++ w.1) t (subst (λ (x : List ℕ). are_bytes x ≡ true) same w.6) (omega (arith, long_front w.0 w.1, w.3, w.4, few.1, more.1))
    (two_are first second w.0 w.1 (operand_word first w.0) None w.3 refl w.7 ∙ none_second (operand_word first w.0)) (w.8 ∙ ap raw_text same)

-- a volume
other_volume : (xs : List ℕ) → IsOther 1 xs → operand_words operands.Volume xs ≡ None
other_volume [] l = refl
other_volume (a ∷ []) (inl l) = absurd (omega (arith, l))
other_volume (a ∷ []) (inr l) = absurd (omega (arith, l))
other_volume (a ∷ b ∷ xs) l = refl

volume_unworded : (t : List ℕ) → Among (raw_but 1) t ⊎ Among (spoilt_parts 0 Loudness 0 ∷ []) t → HasOperands operands.Volume t
volume_unworded t (inl s) = let w = raw_but_was 1 t (omega arith) s in in_hex operands.Volume w.0 t w.1 w.3 (other_volume w.0 w.2) w.4
volume_unworded t (inr s) =
    let w = spoilt_was 0 Loudness 0 t (only (spoilt_parts 0 Loudness 0) t s) in
    let fs = w.5 in
    let same : w.0 ++ w.1 ∷ w.2 ≡ w.1 ∷ [] = ap (λ (x : List ℕ). x ++ w.1 ∷ w.2) (empty w.0 w.3) ∙ ap (λ (x : List ℕ). w.1 ∷ x) (empty w.2 w.4) in
    in_hex operands.Volume (w.1 ∷ []) t (and_both (nat_lt w.1 256) true fs.1 refl) (omega arith)
    (ap (λ (c : Bool). if c then Some ((if nat_le 128 w.1 then codes " mute " else codes " sound ") ++ decimal (w.1 % 128)) else None) fs.3) (fs.4 ∙ ap raw_text same)

-- a text
no_text : (most : ℕ) (xs : List ℕ) → list_all is_text_byte xs ≡ false → is_text most xs ≡ false
no_text most xs h = ap (λ (c : Bool). nat_le 1 (length xs) && nat_le (length xs) most && c) h ∙ by (nat_le 1 (length xs) && nat_le (length xs) most)
  where
    by : (c : Bool) → (c && false) ≡ false
    by true = refl
    by false = refl

text_unworded : (t : List ℕ) → IsTextOf (raw_parts 0) t ⊎ Among (spoilt_from 0 Quoted 14) t → HasOperands operands.Text t
text_unworded t (inl s) =
    let w = raw_was 0 t s in
    in_hex operands.Text [] t refl (omega arith) refl (w.3 ∙ ap raw_text (empty w.0 w.2))
text_unworded t (inr s) =
    let p = spoilt_from_was 0 Quoted 14 t s in
    let w = spoilt_was p.0 Quoted p.1 t p.4 in
    let fs = w.5 in
    let xs = w.0 ++ w.1 ∷ w.2 in
    in_hex operands.Text xs t (both_bytes w.0 (w.1 ∷ w.2) fs.0 (and_both (nat_lt w.1 256) (are_bytes w.2) fs.1 fs.2)) (omega (arith, long_front w.0 (w.1 ∷ w.2), w.3, w.4, p.3))
    (ap (λ (c : Bool). if c then Some (quoted_text xs) else None) (no_text 14 xs (not_all is_text_byte w.0 w.1 w.2 fs.3))) fs.4

-- a word and a text
abbrev no_text_at_all : Option (List ℕ)
no_text_at_all = None

no_word : (set : WordSet) (byte : ℕ) (xs : List ℕ) → spaced_word set byte ≡ None → operand_words (operands.WordAndText set) (byte ∷ xs) ≡ None
no_word set byte [] e = e
no_word set byte (x ∷ xs) e =
    ap (λ (o : Option (List ℕ)). if is_text 13 (x ∷ xs) then option_map (λ (w : List ℕ). w ++ quoted_text (x ∷ xs)) o else None) e ∙ by (is_text 13 (x ∷ xs))
  where
    by : (c : Bool) → (if c then no_text_at_all else no_text_at_all) ≡ no_text_at_all
    by true = refl
    by false = refl

bad_after : (set : WordSet) (byte : ℕ) (xs : List ℕ) → list_all is_text_byte xs ≡ false → operand_words (operands.WordAndText set) (byte ∷ xs) ≡ None
bad_after set byte [] h = absurd (true≢false h)
bad_after set byte (x ∷ xs) h =
    ap (λ (c : Bool). if c then option_map (λ (w : List ℕ). w ++ quoted_text (x ∷ xs)) (spaced_word set byte) else None) (no_text 13 (x ∷ xs) h)

both_unworded : (set : WordSet) (t : List ℕ) → IsTextOf (raw_parts 0) t ⊎ (Among (spoilt_at 0 (Listed set) 14) t ⊎ Among (spoilt_from 1 Quoted 13) t) → HasOperands (operands.WordAndText set) t
both_unworded set t (inl s) =
    let w = raw_was 0 t s in
    in_hex (operands.WordAndText set) [] t refl (omega arith) refl (w.3 ∙ ap raw_text (empty w.0 w.2))
both_unworded set t (inr (inl s)) =
    let p = spoilt_at_was 0 (Listed set) 14 t s in
    let w = spoilt_was 0 (Listed set) p.0 t p.2 in
    let fs = w.5 in
    let same : w.0 ++ w.1 ∷ w.2 ≡ w.1 ∷ w.2 = ap (λ (x : List ℕ). x ++ w.1 ∷ w.2) (empty w.0 w.3) in
    in_hex (operands.WordAndText set) (w.1 ∷ w.2) t (and_both (nat_lt w.1 256) (are_bytes w.2) fs.1 fs.2) (omega (arith, w.4, p.1))
    (no_word set w.1 w.2 (unlisted_none set w.1 fs.3)) (fs.4 ∙ ap raw_text same)
both_unworded set t (inr (inr s)) =
    let p = spoilt_from_was 1 Quoted 13 t s in
    let w = spoilt_was p.0 Quoted p.1 t p.4 in
    by w.0 w.1 w.2 (omega (arith, w.3, p.2)) (omega (arith, w.3, w.4, p.3)) w.5
  where
    by : (front : List ℕ) (b : ℕ) (back : List ℕ) → 1 ≤ length front → length front + length back < 14 → IsSpoilt Quoted front b back t → HasOperands (operands.WordAndText set) t
    by [] b back least few fs = absurd (omega (arith, least))
    by (x ∷ xs) b back least few fs =
        in_hex (operands.WordAndText set) (x ∷ (xs ++ b ∷ back)) t (both_bytes (x ∷ xs) (b ∷ back) fs.0 (and_both (nat_lt b 256) (are_bytes back) fs.1 fs.2))
        (omega (arith, long_front xs (b ∷ back), few)) (bad_after set x (xs ++ b ∷ back) (not_all is_text_byte xs b back fs.3)) fs.4

nothing_unworded : (xs t : List ℕ) → are_bytes xs ≡ true → 1 ≤ length xs → length xs ≤ 14 → t ≡ raw_text xs → HasOperands operands.Nothing t
nothing_unworded [] t h least few e = absurd (omega (arith, least))
nothing_unworded (x ∷ xs) t h least few e = in_hex operands.Nothing (x ∷ xs) t h few refl e

-- one of three
three : (xs ys zs : List (List PatternPart)) (t : List ℕ) → Among (xs ++ (ys ++ zs)) t → Among xs t ⊎ (Among ys t ⊎ Among zs t)
three xs ys zs t r = by (split xs (ys ++ zs) t r)
  where
    by : Among xs t ⊎ Among (ys ++ zs) t → Among xs t ⊎ (Among ys t ⊎ Among zs t)
    by (inl s) = inl s
    by (inr s) = inr (split ys zs t s)

first_or : (x : List PatternPart) (ys zs : List (List PatternPart)) (t : List ℕ) → Among (x ∷ (ys ++ zs)) t → IsTextOf x t ⊎ (Among ys t ⊎ Among zs t)
first_or x ys zs t r = by (head x (ys ++ zs) t r)
  where
    by : IsTextOf x t ⊎ Among (ys ++ zs) t → IsTextOf x t ⊎ (Among ys t ⊎ Among zs t)
    by (inl s) = inl s
    by (inr s) = inr (split ys zs t s)

unworded : (form : Operands) (t : List ℕ) → Among (unworded_parts form) t → HasOperands form t
unworded operands.Raw t r = let w = raw_from_was 0 15 t r in in_hex operands.Raw w.0 t w.1 (omega (arith, w.3)) refl w.4
unworded operands.Nothing t r = let w = raw_from_was 1 14 t r in nothing_unworded w.0 t w.1 w.2 (omega (arith, w.3)) w.4
unworded (operands.One o) t r = one_unworded o t (split (raw_but (size_of o)) (spoilt_operand 0 o 0) t r)
unworded (operands.Optional o) t r = optional_unworded o t (three (raw_from 1 (size_of o - 1)) (raw_from (size_of o + 1) (14 - size_of o)) (spoilt_operand 0 o 0) t r)
unworded (operands.Two first second) t r =
    two_unworded first second t (three (raw_but (size_of first + size_of second)) (spoilt_operand 0 first (size_of second)) (spoilt_operand (size_of first) second 0) t r)
unworded operands.Volume t r = volume_unworded t (split (raw_but 1) (spoilt_parts 0 Loudness 0 ∷ []) t r)
unworded operands.Text t r = text_unworded t (head (raw_parts 0) (spoilt_from 0 Quoted 14) t r)
unworded (operands.WordAndText set) t r = both_unworded set t (first_or (raw_parts 0) (spoilt_at 0 (Listed set) 14) (spoilt_from 1 Quoted 13) t r)

-- each text that operands can have is that of some
pub operands_were : (form : Operands) (t : List ℕ) → Among (operands_parts form) t → HasOperands form t
operands_were form t r = by (split (worded_parts form) (unworded_parts form) t r)
  where
    by : Among (worded_parts form) t ⊎ Among (unworded_parts form) t → HasOperands form t
    by (inl s) = worded form t s
    by (inr s) = unworded form t s
