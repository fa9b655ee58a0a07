-- The texts of some parts are those of bytes: hex digits, words of sets, operands.
use Rattle.std.proofs.Common.{◌≡◌, ℕ, zero, suc, ◌+◌, ◌*◌, ◌/◌, ◌%◌, ◌<◌, ◌≤◌, nat_lt, nat_le, ◌&&◌, ◌⊎◌, inl, inr, Bool, true, false, if◌then◌else◌, length, List, [], ◌∷◌, ◌++◌, Option, Some, None, is_some, refl, sym, ap, subst, ◌∙◌, arith, rules, slice_get, true≢false}
use Rattle.std.specs.Prelude.{option_map}
use Rattle.std.specs.List.{flat_map, list_all}
use Rattle.std.specs.Str.{bytes_eq}
use Rattle.std.proofs.lemmas.Grind.{common_steps}
use Rattle.std.proofs.lemmas.List.{append_assoc}
use Rattle.std.proofs.lemmas.Slice.Eq.{bytes_eq-Decides}
use Rattle.text_core.specs.Bytes.{are_bytes}
use Rattle.text_core.specs.Piece.{hex_text}
use Rattle.message_table.specs.Operands.{size_of}
use Rattle.message_table.specs.WordSets.{NamedByte, word_of, words_of}
use Rattle.message_table.specs.declared.operand.Operand.{Operand}
use Rattle.message_table.specs.declared.operand.Operand.TheVariants as operand
use Rattle.message_table.specs.declared.word_set.WordSet.{WordSet}
use Rattle.message_table.specs.declared.word_set.WordSet.TheVariants.{Reason, Power, OnOff, DeviceType, StatusRequest, DeckInfo, PlayMode, DeckControl, Display, MenuRequest, MenuState, Version, UserControl}
use Rattle.message_text.specs.FrameText.{is_letter, opcode_text, operand_word, raw_text, spaced_word}
use Rattle.expect_text.specs.Parts.{IsEnd, IsTextBefore, IsTextOf, has, has_word}
use Rattle.expect_text.specs.Said.{hex_parts, literal, operand_parts, raw_parts, repeat, spoilt_parts}
use Rattle.expect_text.specs.declared.part.PatternPart.{PatternPart}
use Rattle.expect_text.specs.declared.part.PatternPart.TheVariants.{Byte, One, Many, Word, Unworded, Opcode}
use Rattle.expect_text.specs.declared.part.Worded.{Worded as Kinds}
use Rattle.expect_text.specs.declared.part.Worded.TheVariants.{Listed}
use Rattle.expect_text.specs.declared.part.Class.{Class}
use Rattle.expect_text.specs.declared.part.Class.TheVariants.{Hex, Letter}
use Rattle.expect_text.proofs.Meeting.{append_none}
use Rattle.expect_text.proofs.Readings.{Among, digit, doubled, hex_joined}
use Rattle.expect_text.proofs.Truth.{and_both, first_of, second_of}
use Rattle.expect_text.proofs.Wording.{byte_of, digit_of}

-- ---- parts

module _ (Rest : List ℕ → Type 0) where
  -- the texts of some parts, and of those after them
  pub parted : (xs ys : List PatternPart) (text : List ℕ) → IsTextBefore Rest (xs ++ ys) text
      → (t u : List ℕ) × IsTextOf xs t × IsTextBefore Rest ys u × (text ≡ t ++ u)
  parted [] ys text s = ([], text, refl, s, refl)
  parted (Byte b ∷ xs) ys text s = let r = parted xs ys s.0 s.2 in (b ∷ r.0, r.1, (r.0, refl, r.2), r.3, s.1 ∙ ap (λ (x : List ℕ). b ∷ x) r.4)
  parted (One class ∷ xs) ys text s = let r = parted xs ys s.1 s.4 in (s.0 ∷ r.0, r.1, (s.0, r.0, s.2, refl, r.2), r.3, s.3 ∙ ap (λ (x : List ℕ). s.0 ∷ x) r.4)
  parted (Many class ∷ xs) ys text s =
      let r = parted xs ys s.1 s.4 in
      (s.0 ++ r.0, r.1, (s.0, r.0, s.2, refl, r.2), r.3, s.3 ∙ ap (λ (x : List ℕ). s.0 ++ x) r.4 ∙ sym (append_assoc s.0 r.0 r.1))
  parted (Word set ∷ xs) ys text s =
      let r = parted xs ys s.2 s.5 in
      (s.1.text ++ r.0, r.1, (s.0, s.1, r.0, s.3, refl, r.2), r.3, s.4 ∙ ap (λ (x : List ℕ). s.1.text ++ x) r.4 ∙ sym (append_assoc s.1.text r.0 r.1))
  parted (Unworded kind ∷ xs) ys text s =
      let r = parted xs ys s.1 s.5 in
      (hex_text s.0 ++ r.0, r.1, (s.0, r.0, s.2, s.3, refl, r.2), r.3, s.4 ∙ ap (λ (x : List ℕ). hex_text s.0 ++ x) r.4 ∙ sym (append_assoc (hex_text s.0) r.0 r.1))
  parted (Opcode code ∷ xs) ys text s =
      let r = parted xs ys s.0 s.2 in
      (opcode_text code ++ r.0, r.1, (r.0, refl, r.2), r.3, s.1 ∙ ap (λ (x : List ℕ). opcode_text code ++ x) r.4 ∙ sym (append_assoc (opcode_text code) r.0 r.1))

pub halves : (xs ys : List PatternPart) (text : List ℕ) → IsTextOf (xs ++ ys) text → (t u : List ℕ) × IsTextOf xs t × IsTextOf ys u × (text ≡ t ++ u)
halves = parted IsEnd

pub literal_was : (word t : List ℕ) → IsTextOf (literal word) t → t ≡ word
literal_was [] t s = s
literal_was (b ∷ bs) t s = s.1 ∙ ap (λ (x : List ℕ). b ∷ x) (literal_was bs s.0 s.2)

pub class_was : (class : Class) (n : ℕ) (t : List ℕ) → IsTextOf (repeat n (One class)) t → (length t ≡ n) × (list_all (has class) t ≡ true)
class_was class zero t s = (ap length s, ap (list_all (has class)) s)
class_was class (suc n) t s =
    let r = class_was class n s.1 s.4 in
    (omega (arith, ap length s.3, r.0), ap (list_all (has class)) s.3 ∙ and_both (has class s.0) (list_all (has class) s.1) s.2 r.1)

-- one of two lists of lists of parts
pub split : (xs ys : List (List PatternPart)) (t : List ℕ) → Among (xs ++ ys) t → Among xs t ⊎ Among ys t
split [] ys t r = inr r
split (x ∷ xs) ys t (zero, parts, e, is) = inl (zero, parts, e, is)
split (x ∷ xs) ys t (suc place, parts, e, is) = by (split xs ys t (place, parts, e, is))
  where
    by : Among xs t ⊎ Among ys t → Among (x ∷ xs) t ⊎ Among ys t
    by (inl r) = inl (suc r.0, r.1, r.2, r.3)
    by (inr r) = inr r

parts_are : (x y : List PatternPart) → Some x ≡ Some y → x ≡ y
parts_are x y e = search rules

-- the first of some, or another
pub head : (x : List PatternPart) (xs : List (List PatternPart)) (t : List ℕ) → Among (x ∷ xs) t → IsTextOf x t ⊎ Among xs t
head x xs t (zero, parts, e, is) = inl (subst (λ (p : List PatternPart). IsTextOf p t) (sym (parts_are x parts e)) is)
head x xs t (suc place, parts, e, is) = inr (place, parts, e, is)

pub nowhere : {T : Type 0} (t : List ℕ) → Among [] t → T
nowhere t (zero, parts, e, is) = cc
nowhere t (suc place, parts, e, is) = cc

pub only : (x : List PatternPart) (t : List ℕ) → Among (x ∷ []) t → IsTextOf x t
only x t r = by (head x [] t r)
  where
    by : IsTextOf x t ⊎ Among [] t → IsTextOf x t
    by (inl is) = is
    by (inr none) = nowhere t none

-- ---- bytes in hex

hexes_were : (n : ℕ) (t : List ℕ) → IsTextOf (hex_parts n) t → (xs : List ℕ) × (are_bytes xs ≡ true) × (length xs ≡ n) × (t ≡ flat_map hex_text xs)
hexes_were zero t s = ([], refl, refl, s)
hexes_were (suc n) t s =
    let d : IsTextOf (One Hex ∷ One Hex ∷ hex_parts n) t = subst (λ (k : ℕ). IsTextOf (repeat k (One Hex)) t) (doubled n) s in
    let b = byte_of d.0 d.4.0 d.2 d.4.2 in
    let r = hexes_were n d.4.1 d.4.4 in (
      b.0 ∷ r.0,
      and_both (nat_lt b.0 256) (are_bytes r.0) b.1 r.1,
      omega (arith, r.2),
      d.3 ∙ ap (λ (x : List ℕ). d.0 ∷ x) (d.4.3 ∙ ap (λ (x : List ℕ). d.4.0 ∷ x) r.3) ∙ sym (ap (λ (x : List ℕ). x ++ flat_map hex_text r.0) b.2),
    )

pub raw_was : (n : ℕ) (t : List ℕ) → IsTextOf (raw_parts n) t → (xs : List ℕ) × (are_bytes xs ≡ true) × (length xs ≡ n) × (t ≡ raw_text xs)
unfolding raw_parts
raw_was n t s =
    let r = hexes_were n s.2.0 s.2.2 in
    (r.0, r.1, r.2, s.1 ∙ ap (λ (x : List ℕ). 32 ∷ x) (s.2.1 ∙ ap (λ (x : List ℕ). 58 ∷ x) r.3))

-- a byte that has no word, between others
abbrev pub IsSpoilt : Kinds → List ℕ → ℕ → List ℕ → List ℕ → Type 0
IsSpoilt kind front b back t =
    (are_bytes front ≡ true) × (nat_lt b 256 ≡ true) × (are_bytes back ≡ true) × (has_word kind b ≡ false) × (t ≡ raw_text (front ++ b ∷ back))

pub below : (b n : ℕ) → b < n → nat_lt b n ≡ true
below b n l = grind (arith, common_steps)

pub up_to : (b n : ℕ) → b ≤ n → nat_le b n ≡ true
up_to b n l = grind (arith, common_steps)

pub above : (b n : ℕ) → n < b → nat_le b n ≡ false
above b n l = grind (arith, common_steps)

pub spoilt_was : (before : ℕ) (kind : Kinds) (after : ℕ) (t : List ℕ) → IsTextOf (spoilt_parts before kind after) t
    → (front : List ℕ) × (b : ℕ) × (back : List ℕ) × (length front ≡ before) × (length back ≡ after) × IsSpoilt kind front b back t
unfolding spoilt_parts
spoilt_was before kind after t s =
    let d = halves (hex_parts before) (Unworded kind ∷ hex_parts after) s.2.0 s.2.2 in
    let f = hexes_were before d.0 d.2 in
    let k = hexes_were after d.3.1 d.3.5 in
    let whole : s.2.0 ≡ flat_map hex_text (f.0 ++ d.3.0 ∷ k.0) =
    d.4 ∙ ap (λ (x : List ℕ). x ++ d.1) f.3 ∙ ap (λ (x : List ℕ). flat_map hex_text f.0 ++ x) (d.3.4 ∙ ap (λ (x : List ℕ). hex_text d.3.0 ++ x) k.3) ∙ sym (hex_joined f.0 (d.3.0 ∷ k.0)) in (
      f.0,
      d.3.0,
      k.0,
      f.2,
      k.2,
      (f.1, below d.3.0 256 d.3.2, k.1, d.3.3, s.1 ∙ ap (λ (x : List ℕ). 32 ∷ x) (s.2.1 ∙ ap (λ (x : List ℕ). 58 ∷ x) whole)),
    )

-- ---- words of sets

is_text_of : List ℕ → Option (List ℕ) → Bool
is_text_of text None = false
is_text_of text (Some word) = bytes_eq word text

-- the word of a byte
is_own : List NamedByte → NamedByte → Bool
is_own words w = nat_lt w.code 256 && is_text_of w.text (word_of words w.code)

all_own : (set : WordSet) → list_all (is_own (words_of set)) (words_of set) ≡ true
unfolding is_own is_text_of
all_own Reason = refl
all_own Power = refl
all_own OnOff = refl
all_own DeviceType = refl
all_own StatusRequest = refl
all_own DeckInfo = refl
all_own PlayMode = refl
all_own DeckControl = refl
all_own Display = refl
all_own MenuRequest = refl
all_own MenuState = refl
all_own Version = refl
all_own UserControl = refl

all_at : (is_so : NamedByte → Bool) (words : List NamedByte) (place : ℕ) (w : NamedByte) → list_all is_so words ≡ true → slice_get words place ≡ Some w → is_so w ≡ true
all_at is_so [] zero w h e = cc
all_at is_so [] (suc place) w h e = cc
all_at is_so (x ∷ xs) zero w h e =
    let same : x ≡ w = search rules in
    subst (λ (y : NamedByte). is_so y ≡ true) same (first_of (is_so x) (list_all is_so xs) h)
all_at is_so (x ∷ xs) (suc place) w h e = all_at is_so xs place w (second_of (is_so x) (list_all is_so xs) h) e

found_text : (text : List ℕ) (o : Option (List ℕ)) → is_text_of text o ≡ true → o ≡ Some text
unfolding is_text_of
found_text text None h = absurd (true≢false (sym h))
found_text text (Some word) h = ap (λ (x : List ℕ). Some x) ((bytes_eq-Decides word text).0 h)

own_word : (set : WordSet) (place : ℕ) (w : NamedByte) → slice_get (words_of set) place ≡ Some w
    → (nat_lt w.code 256 ≡ true) × (spaced_word set w.code ≡ Some (32 ∷ w.text))
unfolding is_own
own_word set place w e =
    let own = all_at (is_own (words_of set)) (words_of set) place w (all_own set) e in (
      first_of (nat_lt w.code 256) (is_text_of w.text (word_of (words_of set) w.code)) own,
      ap (λ (o : Option (List ℕ)). option_map (λ (x : List ℕ). 32 ∷ x) o) (found_text w.text (word_of (words_of set) w.code) (second_of (nat_lt w.code 256) (is_text_of w.text (word_of (words_of set) w.code)) own)),
    )

pub unlisted_none : (set : WordSet) (b : ℕ) → has_word (Listed set) b ≡ false → spaced_word set b ≡ None
unlisted_none set b h = by (word_of (words_of set) b) h
  where
    by : (o : Option (List ℕ)) → is_some o ≡ false → option_map (λ (w : List ℕ). 32 ∷ w) o ≡ None
    by None h = refl
    by (Some w) h = absurd (true≢false h)

-- ---- operands

-- bytes of an operand that has this word
abbrev HasWord : Operand → List ℕ → Type 0
HasWord o t = (xs : List ℕ) × (are_bytes xs ≡ true) × (length xs ≡ size_of o) × (operand_word o xs ≡ Some t)

one_byte : (xs : List ℕ) (t : List ℕ) → are_bytes xs ≡ true → length xs ≡ 1 → t ≡ 32 ∷ flat_map hex_text xs → HasWord operand.Byte t
one_byte [] t h l e = absurd (omega (arith, l))
one_byte (a ∷ []) t h l e = (a ∷ [], h, l, ap (λ (x : List ℕ). Some x) (sym e))
one_byte (a ∷ b ∷ xs) t h l e = absurd (omega (arith, l))

three_bytes : (xs : List ℕ) (t : List ℕ) → are_bytes xs ≡ true → length xs ≡ 3 → t ≡ 32 ∷ flat_map hex_text xs → HasWord operand.Vendor t
three_bytes [] t h l e = absurd (omega (arith, l))
three_bytes (a ∷ []) t h l e = absurd (omega (arith, l))
three_bytes (a ∷ b ∷ []) t h l e = absurd (omega (arith, l))
three_bytes (a ∷ b ∷ c ∷ []) t h l e = (a ∷ b ∷ c ∷ [], h, l, ap (λ (x : List ℕ). Some x) (sym e))
three_bytes (a ∷ b ∷ c ∷ d ∷ xs) t h l e = absurd (omega (arith, l))

a_letter : (b : ℕ) → is_letter b ≡ true → nat_lt b 256 ≡ true
a_letter b h = grind (arith, common_steps)

letters : (xs : List ℕ) (t : List ℕ) → list_all (has Letter) xs ≡ true → length xs ≡ 3 → t ≡ 32 ∷ xs → HasWord operand.Language t
letters [] t h l e = absurd (omega (arith, l))
letters (a ∷ []) t h l e = absurd (omega (arith, l))
letters (a ∷ b ∷ []) t h l e = absurd (omega (arith, l))
letters (a ∷ b ∷ c ∷ []) t h l e =
    let first : is_letter a ≡ true = first_of (has Letter a) (has Letter b && (has Letter c && true)) h in
    let rest = second_of (has Letter a) (has Letter b && (has Letter c && true)) h in
    let second : is_letter b ≡ true = first_of (has Letter b) (has Letter c && true) rest in
    let third : is_letter c ≡ true = first_of (has Letter c) true (second_of (has Letter b) (has Letter c && true) rest) in
    let bytes = and_both (nat_lt a 256) (nat_lt b 256 && (nat_lt c 256 && true)) (a_letter a first) (and_both (nat_lt b 256) (nat_lt c 256 && true) (a_letter b second) (and_both (nat_lt c 256) true (a_letter c third) refl)) in
    let all = and_both (is_letter a && is_letter b) (is_letter c) (and_both (is_letter a) (is_letter b) first second) third in
    (a ∷ b ∷ c ∷ [], bytes, l, ap (λ (v : Bool). if v then Some (32 ∷ a ∷ b ∷ c ∷ []) else None) all ∙ ap (λ (x : List ℕ). Some x) (sym e))
letters (a ∷ b ∷ c ∷ d ∷ xs) t h l e = absurd (omega (arith, l))

-- the digits of a byte
digits_were : (a b : ℕ) → has Hex a ≡ true → has Hex b ≡ true → (n : ℕ) × (nat_lt n 256 ≡ true) × (digit (n / 16) ≡ a) × (digit (n % 16) ≡ b)
digits_were a b h k =
    let x = digit_of a h in
    let y = digit_of b k in
    let lx : x.0 < 16 = x.1 in
    let ly : y.0 < 16 = y.1 in
    let up : (x.0 * 16 + y.0) / 16 ≡ x.0 = omega arith in
    let down : (x.0 * 16 + y.0) % 16 ≡ y.0 = omega arith in
    (x.0 * 16 + y.0, grind (arith, common_steps), ap digit up ∙ x.2, ap digit down ∙ y.2)

address_was : (t : List ℕ) → IsTextOf (operand_parts operand.Address) t → HasWord operand.Address t
address_was t s =
    let a = s.2 in
    let b = a.4.2 in
    let c = b.4.2 in
    let d = c.4.2 in
    let m = digits_were a.0 b.0 a.2 b.2 in
    let n = digits_were c.0 d.0 c.2 d.2 in
    let text : t ≡ 32 ∷ a.0 ∷ 46 ∷ b.0 ∷ 46 ∷ c.0 ∷ 46 ∷ d.0 ∷ [] =
    s.1 ∙ ap (λ (x : List ℕ). 32 ∷ x) (a.3 ∙ ap (λ (x : List ℕ). a.0 ∷ x) (a.4.1 ∙ ap (λ (x : List ℕ). 46 ∷ x) (b.3 ∙ ap (λ (x : List ℕ). b.0 ∷ x) (b.4.1 ∙ ap (λ (x : List ℕ). 46 ∷ x)
    (c.3 ∙ ap (λ (x : List ℕ). c.0 ∷ x) (c.4.1 ∙ ap (λ (x : List ℕ). 46 ∷ x) (d.3 ∙ ap (λ (x : List ℕ). d.0 ∷ x) d.4))))))) in
    let word : 32 ∷ digit (m.0 / 16) ∷ 46 ∷ digit (m.0 % 16) ∷ 46 ∷ digit (n.0 / 16) ∷ 46 ∷ digit (n.0 % 16) ∷ [] ≡ t =
    ap (λ (x : ℕ). 32 ∷ x ∷ 46 ∷ digit (m.0 % 16) ∷ 46 ∷ digit (n.0 / 16) ∷ 46 ∷ digit (n.0 % 16) ∷ []) m.2
    ∙ ap (λ (x : ℕ). 32 ∷ a.0 ∷ 46 ∷ x ∷ 46 ∷ digit (n.0 / 16) ∷ 46 ∷ digit (n.0 % 16) ∷ []) m.3
    ∙ ap (λ (x : ℕ). 32 ∷ a.0 ∷ 46 ∷ b.0 ∷ 46 ∷ x ∷ 46 ∷ digit (n.0 % 16) ∷ []) n.2
    ∙ ap (λ (x : ℕ). 32 ∷ a.0 ∷ 46 ∷ b.0 ∷ 46 ∷ c.0 ∷ 46 ∷ x ∷ []) n.3 ∙ sym text in
    (m.0 ∷ n.0 ∷ [], and_both (nat_lt m.0 256) (nat_lt n.0 256 && true) m.1 (and_both (nat_lt n.0 256) true n.1 refl), refl, ap (λ (x : List ℕ). Some x) word)

pub word_was : (set : WordSet) (t : List ℕ) → IsTextOf (Byte 32 ∷ Word set ∷ []) t → (b : ℕ) × (nat_lt b 256 ≡ true) × (spaced_word set b ≡ Some t)
word_was set t s =
    let w = s.2 in
    let own = own_word set w.0 w.1 w.3 in
    let text : t ≡ 32 ∷ w.1.text = s.1 ∙ ap (λ (x : List ℕ). 32 ∷ x) (w.4 ∙ ap (λ (x : List ℕ). w.1.text ++ x) w.5 ∙ append_none w.1.text) in
    (w.1.code, own.0, own.1 ∙ ap (λ (x : List ℕ). Some x) (sym text))

pub operand_was : (o : Operand) (t : List ℕ) → IsTextOf (operand_parts o) t → HasWord o t
operand_was operand.Byte t s = let r = hexes_were 1 s.0 s.2 in one_byte r.0 t r.1 r.2 (s.1 ∙ ap (λ (x : List ℕ). 32 ∷ x) r.3)
operand_was (operand.Word set) t s = let w = word_was set t s in (w.0 ∷ [], and_both (nat_lt w.0 256) true w.1 refl, refl, w.2)
operand_was operand.Language t s = let r = class_was Letter 3 s.0 s.2 in letters s.0 t r.1 r.0 s.1
operand_was operand.Vendor t s = let r = hexes_were 3 s.0 s.2 in three_bytes r.0 t r.1 r.2 (s.1 ∙ ap (λ (x : List ℕ). 32 ∷ x) r.3)
operand_was operand.Address t s = address_was t s

-- bytes of another number have no word
pub wrong_size : (o : Operand) (xs : List ℕ) → (length xs < size_of o) ⊎ (size_of o < length xs) → operand_word o xs ≡ None
wrong_size operand.Byte [] l = refl
wrong_size operand.Byte (a ∷ []) (inl l) = absurd (omega (arith, l))
wrong_size operand.Byte (a ∷ []) (inr l) = absurd (omega (arith, l))
wrong_size operand.Byte (a ∷ b ∷ xs) l = refl
wrong_size (operand.Word set) [] l = refl
wrong_size (operand.Word set) (a ∷ []) (inl l) = absurd (omega (arith, l))
wrong_size (operand.Word set) (a ∷ []) (inr l) = absurd (omega (arith, l))
wrong_size (operand.Word set) (a ∷ b ∷ xs) l = refl
wrong_size operand.Language [] l = refl
wrong_size operand.Language (a ∷ []) l = refl
wrong_size operand.Language (a ∷ b ∷ []) l = refl
wrong_size operand.Language (a ∷ b ∷ c ∷ []) (inl l) = absurd (omega (arith, l))
wrong_size operand.Language (a ∷ b ∷ c ∷ []) (inr l) = absurd (omega (arith, l))
wrong_size operand.Language (a ∷ b ∷ c ∷ d ∷ xs) l = refl
wrong_size operand.Vendor [] l = refl
wrong_size operand.Vendor (a ∷ []) l = refl
wrong_size operand.Vendor (a ∷ b ∷ []) l = refl
wrong_size operand.Vendor (a ∷ b ∷ c ∷ []) (inl l) = absurd (omega (arith, l))
wrong_size operand.Vendor (a ∷ b ∷ c ∷ []) (inr l) = absurd (omega (arith, l))
wrong_size operand.Vendor (a ∷ b ∷ c ∷ d ∷ xs) l = refl
wrong_size operand.Address [] l = refl
wrong_size operand.Address (a ∷ []) l = refl
wrong_size operand.Address (a ∷ b ∷ []) (inl l) = absurd (omega (arith, l))
wrong_size operand.Address (a ∷ b ∷ []) (inr l) = absurd (omega (arith, l))
wrong_size operand.Address (a ∷ b ∷ c ∷ xs) l = refl
