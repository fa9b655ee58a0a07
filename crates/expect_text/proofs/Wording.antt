-- A word is found to be one of a state line exactly where some state line can have it.
use Rattle.std.proofs.Common.{◌≡◌, ℕ, zero, suc, ◌+◌, ◌-◌, ◌*◌, ◌/◌, ◌%◌, ◌<◌, ◌≤◌, ◌^◌, ◌==◌, nat_lt, nat_le, ◌&&◌, ◌||◌, ◌⊎◌, inl, inr, Bool, true, false, if◌then◌else◌, codes, length, List, [], ◌∷◌, ◌++◌, Option, Some, None, is_some, slice_get, refl, sym, ap, ◌∙◌, arith, true≢false}
use Rattle.std.specs.Fmt.{decimal}
use Rattle.std.specs.List.{flat_map, list_all, list_any}
use Rattle.std.specs.Str.{bytes_eq}
use Rattle.std.proofs.lemmas.Grind.{common_steps}
use Rattle.std.proofs.lemmas.Slice.Eq.{bytes_eq-Decides}
use Rattle.text_core.specs.Bytes.{are_bytes}
use Rattle.text_core.specs.Kind.{kind_named, kind_word, kinds}
use Rattle.text_core.specs.Number.{number_of}
use Rattle.text_core.specs.Piece.{hex_text}
use Rattle.text_core.specs.declared.kind.Kind.{Kind}
use Rattle.text_core.proofs.KindWords.{kind_read_again, word_of_found}
use Rattle.expect_text.specs.Laws.{StateWordsAreMet}
use Rattle.expect_text.specs.Parts.{IsTextOf, has}
use Rattle.expect_text.specs.StateTest.{by_front, by_many, by_one, fields, is_bare, is_dash, is_empty, is_number, is_of_field, is_pair, is_second, is_state_word, is_text, is_text_or_dash, is_value, number_by, of_bytes}
use Rattle.expect_text.specs.StateWords.{AreBytes, IsBare, IsDash, IsField, IsNumber, IsPair, IsStateWord, IsUnit, IsValue, four_parts, key, note_parts, physical_parts, three_parts, value_of}
use Rattle.expect_text.specs.declared.part.Class.TheVariants.{Hex}
use Rattle.expect_text.specs.declared.part.PatternPart.{PatternPart}
use Rattle.expect_text.specs.declared.part.PatternPart.TheVariants.{Byte, One, Many, Word, Unworded, Opcode}
use Rattle.expect_text.specs.declared.state_words.StateField.{StateField}
use Rattle.expect_text.specs.declared.state_words.StateField.TheVariants.{Active, Path, Deck, Menu, Audio, Volume, Mute, Arc, Selected, Language, Osd, Held, Heard, Sub, Queue, Dropped}
use Rattle.expect_text.specs.declared.state_words.Value.{Value}
use Rattle.expect_text.specs.declared.state_words.Value.TheVariants as value
use Rattle.capture_core.proofs.Numbers.{number_again}
use Rattle.expect_text.proofs.Readings.{all_hex}
use Rattle.expect_text.proofs.Truth.{and_both, either, first_of, or_left, or_right, second_of}

-- ---- texts

same_byte : (a b : ℕ) → (a == b) ≡ true → a ≡ b
same_byte a b h = grind (arith, common_steps)

itself : (b : ℕ) → (b == b) ≡ true
itself b = grind (arith, common_steps)

same_text : (x y : List ℕ) → bytes_eq x y ≡ true → x ≡ y
same_text x y h = (bytes_eq-Decides x y).0 h

text_itself : (x y : List ℕ) → x ≡ y → bytes_eq x y ≡ true
text_itself x y h = (bytes_eq-Decides x y).1 h

-- ---- texts of parts

-- none is a word of a set or an opcode
abbrev is_plain : List PatternPart → Bool
is_plain [] = true
is_plain (Byte b ∷ parts) = is_plain parts
is_plain (One class ∷ parts) = is_plain parts
is_plain (Many class ∷ parts) = is_plain parts
is_plain (Word set ∷ parts) = false
is_plain (Unworded kind ∷ parts) = false
is_plain (Opcode code ∷ parts) = false

abbrev Found : (List ℕ → Bool) → (List ℕ → Type 0) → Type 0
Found test Texts = (text : List ℕ) → test text ≡ true → Texts text

abbrev Have : (List ℕ → Bool) → (List ℕ → Type 0) → Type 0
Have test Texts = (text : List ℕ) → Texts text → test text ≡ true

abbrev ManyBefore : (ℕ → Bool) → (List ℕ → Type 0) → List ℕ → Type 0
ManyBefore may_be Texts text = (front : List ℕ) × (more : List ℕ) × (list_all may_be front ≡ true) × (text ≡ front ++ more) × Texts more

many_found : (may_be : ℕ → Bool) (test : List ℕ → Bool) (Texts : List ℕ → Type 0) → Found test Texts → Found (by_many may_be test) (ManyBefore may_be Texts)
many_found may_be test Texts rest [] h = ([], [], refl, refl, rest [] h)
many_found may_be test Texts rest (b ∷ bs) h =
    either (test (b ∷ bs)) (may_be b && by_many may_be test bs) h
    (λ k. ([], b ∷ bs, refl, refl, rest (b ∷ bs) k))
    (λ k. let m = many_found may_be test Texts rest bs (second_of (may_be b) (by_many may_be test bs) k) in
    (b ∷ m.0, m.1, and_both (may_be b) (list_all may_be m.0) (first_of (may_be b) (by_many may_be test bs) k) m.2, ap (λ t. b ∷ t) m.3, m.4))

at_once : (may_be : ℕ → Bool) (test : List ℕ → Bool) (text : List ℕ) → test text ≡ true → by_many may_be test text ≡ true
at_once may_be test [] h = h
at_once may_be test (b ∷ bs) h = or_left (test (b ∷ bs)) (may_be b && by_many may_be test bs) h

many_have : (may_be : ℕ → Bool) (test : List ℕ → Bool) (front more : List ℕ) → list_all may_be front ≡ true → test more ≡ true → by_many may_be test (front ++ more) ≡ true
many_have may_be test [] more h k = at_once may_be test more k
many_have may_be test (b ∷ bs) more h k =
    or_right (test (b ∷ (bs ++ more))) (may_be b && by_many may_be test (bs ++ more))
    (and_both (may_be b) (by_many may_be test (bs ++ more)) (first_of (may_be b) (list_all may_be bs) h) (many_have may_be test bs more (second_of (may_be b) (list_all may_be bs) h) k))

text_found : (parts : List PatternPart) → is_plain parts ≡ true → Found (is_text parts) (IsTextOf parts)
text_found [] p [] h = refl
text_found [] p (x ∷ xs) h = absurd (true≢false (sym h))
text_found (Byte b ∷ parts) p [] h = absurd (true≢false (sym h))
text_found (Byte b ∷ parts) p (x ∷ xs) h =
    (xs, ap (λ y. y ∷ xs) (same_byte x b (first_of (x == b) (is_text parts xs) h)), text_found parts p xs (second_of (x == b) (is_text parts xs) h))
text_found (One class ∷ parts) p [] h = absurd (true≢false (sym h))
text_found (One class ∷ parts) p (x ∷ xs) h =
    (x, xs, first_of (has class x) (is_text parts xs) h, refl, text_found parts p xs (second_of (has class x) (is_text parts xs) h))
text_found (Many class ∷ parts) p text h = many_found (has class) (is_text parts) (IsTextOf parts) (text_found parts p) text h
text_found (Word set ∷ parts) p text h = absurd (true≢false (sym h))
text_found (Unworded kind ∷ parts) p text h = absurd (true≢false (sym h))
text_found (Opcode code ∷ parts) p text h = absurd (true≢false (sym h))

text_have : (parts : List PatternPart) → is_plain parts ≡ true → Have (is_text parts) (IsTextOf parts)
text_have [] p text h = ap is_empty h
text_have (Byte b ∷ parts) p text h =
    ap (by_one (λ x. x == b) (is_text parts)) h.1 ∙ and_both (b == b) (is_text parts h.0) (itself b) (text_have parts p h.0 h.2)
text_have (One class ∷ parts) p text h =
    ap (by_one (has class) (is_text parts)) h.3 ∙ and_both (has class h.0) (is_text parts h.1) h.2 (text_have parts p h.1 h.4)
text_have (Many class ∷ parts) p text h =
    ap (by_many (has class) (is_text parts)) h.3 ∙ many_have (has class) (is_text parts) h.0 h.1 h.2 (text_have parts p h.1 h.4)
text_have (Word set ∷ parts) p text h = absurd (true≢false (sym p))
text_have (Unworded kind ∷ parts) p text h = absurd (true≢false (sym p))
text_have (Opcode code ∷ parts) p text h = absurd (true≢false (sym p))

-- or `-`
dashed_found : (parts : List PatternPart) → is_plain parts ≡ true → (text : List ℕ) → is_text_or_dash parts text ≡ true → IsTextOf parts text ⊎ IsDash text
dashed_found parts p text h =
    either (is_text parts text) (bytes_eq text (codes "-")) h (λ k. inl (text_found parts p text k)) (λ k. inr (same_text text (codes "-") k))

dashed_have : (parts : List PatternPart) → is_plain parts ≡ true → (text : List ℕ) → IsTextOf parts text ⊎ IsDash text → is_text_or_dash parts text ≡ true
dashed_have parts p text (inl h) = or_left (is_text parts text) (bytes_eq text (codes "-")) (text_have parts p text h)
dashed_have parts p text (inr h) = or_right (is_text parts text) (bytes_eq text (codes "-")) (text_itself text (codes "-") h)

-- ---- numbers

number_by_found : (most : ℕ) (text : List ℕ) (o : Option ℕ) → number_by most text o ≡ true → IsNumber most text
number_by_found most text None h = absurd (true≢false (sym h))
number_by_found most text (Some n) h =
    (n, grind (arith, common_steps, first_of (nat_le n most) (bytes_eq (decimal n) text) h), sym (same_text (decimal n) text (second_of (nat_le n most) (bytes_eq (decimal n) text) h)))

number_found : (most : ℕ) (text : List ℕ) → is_number most text ≡ true → IsNumber most text
number_found most text h = number_by_found most text (number_of text) h

at_most : (n most : ℕ) → n ≤ most → nat_le n most ≡ true
at_most n most l = grind (arith, common_steps)

number_has : (most : ℕ) → most < 2 ^ 64 → (text : List ℕ) → IsNumber most text → is_number most text ≡ true
number_has most small text h =
    let l : h.0 ≤ most = h.1 in
    ap (is_number most) h.2 ∙ ap (number_by most (decimal h.0)) (number_again h.0 (omega (arith, l, small)))
    ∙ and_both (nat_le h.0 most) (bytes_eq (decimal h.0) (decimal h.0)) (at_most h.0 most l) (text_itself (decimal h.0) (decimal h.0) refl)

numbered_found : (most : ℕ) (text : List ℕ) → (is_number most text || is_dash text) ≡ true → IsNumber most text ⊎ IsDash text
numbered_found most text h = either (is_number most text) (is_dash text) h (λ k. inl (number_found most text k)) (λ k. inr (same_text text (codes "-") k))

numbered_has : (most : ℕ) → most < 2 ^ 64 → (text : List ℕ) → IsNumber most text ⊎ IsDash text → (is_number most text || is_dash text) ≡ true
numbered_has most small text (inl h) = or_left (is_number most text) (is_dash text) (number_has most small text h)
numbered_has most small text (inr h) = or_right (is_number most text) (is_dash text) (text_itself text (codes "-") h)

-- ---- bytes in hex

-- a hex digit is that of a number below 16
abbrev digit : ℕ → ℕ
digit n = if nat_lt n 10 then 48 + n else 87 + n

pub digit_of : (b : ℕ) → has Hex b ≡ true → (n : ℕ) × (n < 16) × (digit n ≡ b)
digit_of b h = by (nat_lt b 58) refl
  where
    by : (c : Bool) → nat_lt b 58 ≡ c → (n : ℕ) × (n < 16) × (digit n ≡ b)
    by true e = (b - 48, grind (arith, common_steps), grind (arith, common_steps))
    by false e = (b - 87, grind (arith, common_steps), grind (arith, common_steps))

-- two of them are those of a byte
pub byte_of : (a b : ℕ) → has Hex a ≡ true → has Hex b ≡ true → (n : ℕ) × (nat_lt n 256 ≡ true) × (hex_text n ≡ a ∷ b ∷ [])
byte_of a b h k =
    let x = digit_of a h in
    let y = digit_of b k in
    let lx : x.0 < 16 = x.1 in
    let ly : y.0 < 16 = y.1 in
    let up : (x.0 * 16 + y.0) / 16 ≡ x.0 = omega arith in
    let down : (x.0 * 16 + y.0) % 16 ≡ y.0 = omega arith in
    let ea : digit ((x.0 * 16 + y.0) / 16) ≡ a = ap digit up ∙ x.2 in
    let eb : digit ((x.0 * 16 + y.0) % 16) ≡ b = ap digit down ∙ y.2 in
    (x.0 * 16 + y.0, grind (arith, common_steps), ap (λ t. t ∷ digit ((x.0 * 16 + y.0) % 16) ∷ []) ea ∙ ap (λ t. a ∷ t ∷ []) eb)

abbrev from_size : ℕ → List ℕ → Bool
from_size least text = (length text % 2 == 0) && nat_le least (length text / 2)

abbrev of_size : ℕ → ℕ → List ℕ → Bool
of_size least most text = from_size least text && nat_le (length text / 2) most

is_even : (n m : ℕ) → n ≡ m + m → (n % 2 == 0) ≡ true
is_even n m e = let half : n % 2 ≡ 0 = omega (arith, e) in ap (λ k. k == 0) half

bytes_in : (text : List ℕ) → list_all (has Hex) text ≡ true → length text % 2 ≡ 0
    → (bytes : List ℕ) × (are_bytes bytes ≡ true) × (length text ≡ length bytes + length bytes) × (text ≡ flat_map hex_text bytes)
bytes_in [] h even = ([], refl, refl, refl)
bytes_in (a ∷ []) h even = absurd (omega arith)
bytes_in (a ∷ b ∷ text) h even =
    let k = second_of (has Hex a) (has Hex b && list_all (has Hex) text) h in
    let n = byte_of a b (first_of (has Hex a) (has Hex b && list_all (has Hex) text) h) (first_of (has Hex b) (list_all (has Hex) text) k) in
    let more = bytes_in text (second_of (has Hex b) (list_all (has Hex) text) k) (omega arith) in
    let twice : length text ≡ length more.0 + length more.0 = more.2 in
    (n.0 ∷ more.0, and_both (nat_lt n.0 256) (are_bytes more.0) n.1 more.1, omega arith, ap (λ t. a ∷ b ∷ t) more.3 ∙ ap (λ t. t ++ flat_map hex_text more.0) (sym n.2))

digits_of : (bytes : List ℕ) → length (flat_map hex_text bytes) ≡ length bytes + length bytes
digits_of [] = refl
digits_of (b ∷ bs) = let rest = digits_of bs in omega arith

bytes_found : (least most : ℕ) (text : List ℕ) → of_bytes least most text ≡ true → AreBytes least most text
bytes_found least most text h =
    let up = first_of (of_size least most text) (list_all (has Hex) text) h in
    let low = first_of (from_size least text) (nat_le (length text / 2) most) up in
    let even : length text % 2 ≡ 0 = grind (arith, common_steps, first_of (length text % 2 == 0) (nat_le least (length text / 2)) low) in
    let least_is : least ≤ length text / 2 = grind (arith, common_steps, second_of (length text % 2 == 0) (nat_le least (length text / 2)) low) in
    let most_is : length text / 2 ≤ most = grind (arith, common_steps, second_of (from_size least text) (nat_le (length text / 2) most) up) in
    let some = bytes_in text (second_of (of_size least most text) (list_all (has Hex) text) h) even in
    let twice : length text ≡ length some.0 + length some.0 = some.2 in
    (some.0, some.1, omega arith, omega arith, some.3)

bytes_by : (least most : ℕ) (bytes : List ℕ) → are_bytes bytes ≡ true → least ≤ length bytes → length bytes ≤ most → of_bytes least most (flat_map hex_text bytes) ≡ true
bytes_by least most bytes h l m =
    let text = flat_map hex_text bytes in
    let twice : length text ≡ length bytes + length bytes = digits_of bytes in
    and_both (of_size least most text) (list_all (has Hex) text)
    (and_both (from_size least text) (nat_le (length text / 2) most)
    (and_both (length text % 2 == 0) (nat_le least (length text / 2)) (is_even (length text) (length bytes) twice) (at_most least (length text / 2) (omega arith)))
    (at_most (length text / 2) most (omega arith)))
    (all_hex bytes h)

bytes_have : (least most : ℕ) (text : List ℕ) → AreBytes least most text → of_bytes least most text ≡ true
bytes_have least most text h = ap (of_bytes least most) h.4 ∙ bytes_by least most h.0 h.1 h.2 h.3

-- ---- values

value_found : (v : Value) (text : List ℕ) → is_value v text ≡ true → IsValue v text
value_found value.Switch text h =
    either (bytes_eq text (codes "on")) (bytes_eq text (codes "off") || bytes_eq text (codes "-")) h (λ k. inl (same_text text (codes "on") k))
    (λ k. inr (either (bytes_eq text (codes "off")) (bytes_eq text (codes "-")) k (λ n. inl (same_text text (codes "off") n)) (λ n. inr (same_text text (codes "-") n))))
value_found value.Physical text h = dashed_found physical_parts refl text h
value_found value.Byte text h = dashed_found (One Hex ∷ One Hex ∷ []) refl text h
value_found (value.Number most) text h = numbered_found most text h
value_found (value.Bytes least most) text h =
    either (of_bytes least most text) (is_dash text) h (λ k. inl (bytes_found least most text k)) (λ k. inr (same_text text (codes "-") k))
value_found value.Note text h = dashed_found note_parts refl text h
value_found value.Nibble text h = dashed_found (One Hex ∷ []) refl text h
value_found (value.Count most) text h = number_found most text h

switch_has : (text : List ℕ) → IsValue value.Switch text → is_value value.Switch text ≡ true
switch_has text (inl h) = or_left (bytes_eq text (codes "on")) (bytes_eq text (codes "off") || bytes_eq text (codes "-")) (text_itself text (codes "on") h)
switch_has text (inr (inl h)) =
    or_right (bytes_eq text (codes "on")) (bytes_eq text (codes "off") || bytes_eq text (codes "-"))
    (or_left (bytes_eq text (codes "off")) (bytes_eq text (codes "-")) (text_itself text (codes "off") h))
switch_has text (inr (inr h)) =
    or_right (bytes_eq text (codes "on")) (bytes_eq text (codes "off") || bytes_eq text (codes "-"))
    (or_right (bytes_eq text (codes "off")) (bytes_eq text (codes "-")) (text_itself text (codes "-") h))

-- a number of a value is one of 64 bits
abbrev IsInWord : Value → Type 0
IsInWord (value.Number most) = most < 2 ^ 64
IsInWord (value.Count most) = most < 2 ^ 64
IsInWord _ = Unit {0}

value_has : (v : Value) → IsInWord v → (text : List ℕ) → IsValue v text → is_value v text ≡ true
value_has value.Switch small text h = switch_has text h
value_has value.Physical small text h = dashed_have physical_parts refl text h
value_has value.Byte small text h = dashed_have (One Hex ∷ One Hex ∷ []) refl text h
value_has (value.Number most) small text h = numbered_has most small text h
value_has (value.Bytes least most) small text (inl h) = or_left (of_bytes least most text) (is_dash text) (bytes_have least most text h)
value_has (value.Bytes least most) small text (inr h) = or_right (of_bytes least most text) (is_dash text) (text_itself text (codes "-") h)
value_has value.Note small text h = dashed_have note_parts refl text h
value_has value.Nibble small text h = dashed_have (One Hex ∷ []) refl text h
value_has (value.Count most) small text h = number_has most small text h

fits_word : (field : StateField) → IsInWord (value_of field)
fits_word Active = tt
fits_word Path = tt
fits_word Deck = tt
fits_word Menu = tt
fits_word Audio = tt
fits_word Volume = omega arith
fits_word Mute = tt
fits_word Arc = tt
fits_word Selected = omega arith
fits_word Language = tt
fits_word Osd = tt
fits_word Held = tt
fits_word Heard = tt
fits_word Sub = tt
fits_word Queue = omega arith
fits_word Dropped = omega arith

-- ---- fields

front_found : (front : List ℕ) (test : List ℕ → Bool) (word : List ℕ) → by_front front test word ≡ true → (text : List ℕ) × (word ≡ front ++ text) × (test text ≡ true)
front_found [] test word h = (word, refl, h)
front_found (b ∷ bs) test [] h = absurd (true≢false (sym h))
front_found (b ∷ bs) test (x ∷ xs) h =
    let m = front_found bs test xs (second_of (x == b) (by_front bs test xs) h) in
    let same : x ≡ b = same_byte x b (first_of (x == b) (by_front bs test xs) h) in
    (m.0, ap (λ y. y ∷ xs) same ∙ ap (λ t. b ∷ t) m.1, m.2)

front_has : (front : List ℕ) (test : List ℕ → Bool) (text : List ℕ) → test text ≡ true → by_front front test (front ++ text) ≡ true
front_has [] test text h = h
front_has (b ∷ bs) test text h = and_both (b == b) (by_front bs test (bs ++ text)) (itself b) (front_has bs test text h)

some_of : {T : Type 0} (test : T → Bool) (xs : List T) → list_any test xs ≡ true → (x : T) × (test x ≡ true)
some_of test [] h = absurd (true≢false (sym h))
some_of test (x ∷ xs) h = either (test x) (list_any test xs) h (λ k. (x, k)) (λ k. some_of test xs k)

any_at : {T : Type 0} (test : T → Bool) (xs : List T) (place : ℕ) (x : T) → slice_get xs place ≡ Some x → test x ≡ true → list_any test xs ≡ true
any_at test [] place x e h = cc
any_at test (y ∷ ys) zero x e h = let same : y ≡ x = cc in or_left (test y) (list_any test ys) (ap test same ∙ h)
any_at test (y ∷ ys) (suc n) x e h = or_right (test y) (list_any test ys) (any_at test ys n x e h)

is_any : (word : List ℕ) (field : StateField) → is_of_field word field ≡ true → list_any (is_of_field word) fields ≡ true
is_any word Active h = any_at (is_of_field word) fields 0 Active refl h
is_any word Path h = any_at (is_of_field word) fields 1 Path refl h
is_any word Deck h = any_at (is_of_field word) fields 2 Deck refl h
is_any word Menu h = any_at (is_of_field word) fields 3 Menu refl h
is_any word Audio h = any_at (is_of_field word) fields 4 Audio refl h
is_any word Volume h = any_at (is_of_field word) fields 5 Volume refl h
is_any word Mute h = any_at (is_of_field word) fields 6 Mute refl h
is_any word Arc h = any_at (is_of_field word) fields 7 Arc refl h
is_any word Selected h = any_at (is_of_field word) fields 8 Selected refl h
is_any word Language h = any_at (is_of_field word) fields 9 Language refl h
is_any word Osd h = any_at (is_of_field word) fields 10 Osd refl h
is_any word Held h = any_at (is_of_field word) fields 11 Held refl h
is_any word Heard h = any_at (is_of_field word) fields 12 Heard refl h
is_any word Sub h = any_at (is_of_field word) fields 13 Sub refl h
is_any word Queue h = any_at (is_of_field word) fields 14 Queue refl h
is_any word Dropped h = any_at (is_of_field word) fields 15 Dropped refl h

field_found : (word : List ℕ) → list_any (is_of_field word) fields ≡ true → IsField word
field_found word h =
    let some = some_of (is_of_field word) fields h in
    let front = front_found (key some.0) (is_value (value_of some.0)) word some.1 in
    (some.0, front.0, front.1, value_found (value_of some.0) front.0 front.2)

field_has : (word : List ℕ) → IsField word → list_any (is_of_field word) fields ≡ true
field_has word h =
    is_any word h.0 (ap (by_front (key h.0) (is_value (value_of h.0))) h.2 ∙ front_has (key h.0) (is_value (value_of h.0)) h.1 (value_has (value_of h.0) (fits_word h.0) h.1 h.3))

-- ---- words without a key

unit_found : (text : List ℕ) → is_text_or_dash (One Hex ∷ []) text ≡ true → IsUnit text
unit_found text h = dashed_found (One Hex ∷ []) refl text h

unit_has : (text : List ℕ) → IsUnit text → is_text_or_dash (One Hex ∷ []) text ≡ true
unit_has text h = dashed_have (One Hex ∷ []) refl text h

second_found : (text : List ℕ) → is_second text ≡ true → (second : List ℕ) × (text ≡ 43 ∷ second) × IsUnit second
second_found [] h = absurd (true≢false (sym h))
second_found (x ∷ xs) h =
    (xs, ap (λ y. y ∷ xs) (same_byte x 43 (first_of (x == 43) (is_text_or_dash (One Hex ∷ []) xs) h)), unit_found xs (second_of (x == 43) (is_text_or_dash (One Hex ∷ []) xs) h))

second_has : (second : List ℕ) → IsUnit second → is_second (43 ∷ second) ≡ true
second_has second h = unit_has second h

pair_found : (word : List ℕ) → is_pair word ≡ true → IsPair word
pair_found [] h = absurd (true≢false (sym h))
pair_found (x ∷ xs) h =
    either (has Hex x && is_second xs) (bytes_eq (x ∷ xs) (codes "-+-")) h
    (λ k. let s = second_found xs (second_of (has Hex x) (is_second xs) k) in
    inl (x ∷ [], s.0, ap (λ t. x ∷ t) s.1, (x, [], first_of (has Hex x) (is_second xs) k, refl, refl), s.2))
    (λ k. inr (same_text (x ∷ xs) (codes "-+-") k))

pair_by : (first second : List ℕ) → IsTextOf (One Hex ∷ []) first → IsUnit second → is_pair (first ++ 43 ∷ second) ≡ true
pair_by first second h k =
    let one : first ≡ h.0 ∷ [] = h.3 ∙ ap (λ t. h.0 ∷ t) h.4 in
    ap (λ t. is_pair (t ++ 43 ∷ second)) one
    ∙ or_left (has Hex h.0 && is_second (43 ∷ second)) (bytes_eq (h.0 ∷ 43 ∷ second) (codes "-+-")) (and_both (has Hex h.0) (is_second (43 ∷ second)) h.2 (second_has second k))

pair_has : (word : List ℕ) → IsPair word → is_pair word ≡ true
pair_has word (inl h) = ap is_pair h.2 ∙ pair_by h.0 h.1 h.3 h.4
pair_has word (inr h) = ap is_pair h

kind_found : (word : List ℕ) (found : Option Kind) → kind_named word ≡ found → is_some found ≡ true → (kind : Kind) × (word ≡ kind_word kind)
kind_found word None e h = absurd (true≢false (sym h))
kind_found word (Some kind) e h = (kind, word_of_found kind_word kinds word kind e)

kind_has : (word : List ℕ) (kind : Kind) → word ≡ kind_word kind → is_some (kind_named word) ≡ true
kind_has word kind e = ap (λ t. is_some (kind_named t)) e ∙ ap is_some (kind_read_again kind)

abbrev after_three : List ℕ → Bool
after_three word = is_text four_parts word || is_text physical_parts word

abbrev after_pair : List ℕ → Bool
after_pair word = is_text three_parts word || after_three word

abbrev after_kind : List ℕ → Bool
after_kind word = is_text_or_dash (One Hex ∷ []) word || (is_pair word || after_pair word)

abbrev after_on : List ℕ → Bool
after_on word = bytes_eq word (codes "standby") || (is_some (kind_named word) || after_kind word)

bare_found : (word : List ℕ) → is_bare word ≡ true → IsBare word
bare_found word h =
    either (bytes_eq word (codes "on")) (after_on word) h (λ k. inl (same_text word (codes "on") k))
    (λ k. inr (either (bytes_eq word (codes "standby")) (is_some (kind_named word) || after_kind word) k (λ n. inl (same_text word (codes "standby") n))
    (λ n. inr (either (is_some (kind_named word)) (after_kind word) n (λ m. inl (kind_found word (kind_named word) refl m))
    (λ m. inr (either (is_text_or_dash (One Hex ∷ []) word) (is_pair word || after_pair word) m (λ o. inl (unit_found word o))
    (λ o. inr (either (is_pair word) (after_pair word) o (λ p. inl (pair_found word p))
    (λ p. inr (either (is_text three_parts word) (after_three word) p (λ q. inl (text_found three_parts refl word q))
    (λ q. inr (either (is_text four_parts word) (is_text physical_parts word) q (λ r. inl (text_found four_parts refl word r)) (λ r. inr (text_found physical_parts refl word r))))))))))))))

bare_has : (word : List ℕ) → IsBare word → is_bare word ≡ true
bare_has word (inl h) = or_left (bytes_eq word (codes "on")) (after_on word) (text_itself word (codes "on") h)
bare_has word (inr (inl h)) =
    or_right (bytes_eq word (codes "on")) (after_on word) (or_left (bytes_eq word (codes "standby")) (is_some (kind_named word) || after_kind word) (text_itself word (codes "standby") h))
bare_has word (inr (inr (inl h))) =
    or_right (bytes_eq word (codes "on")) (after_on word) (or_right (bytes_eq word (codes "standby")) (is_some (kind_named word) || after_kind word)
    (or_left (is_some (kind_named word)) (after_kind word) (kind_has word h.0 h.1)))
bare_has word (inr (inr (inr (inl h)))) =
    or_right (bytes_eq word (codes "on")) (after_on word) (or_right (bytes_eq word (codes "standby")) (is_some (kind_named word) || after_kind word)
    (or_right (is_some (kind_named word)) (after_kind word) (or_left (is_text_or_dash (One Hex ∷ []) word) (is_pair word || after_pair word) (unit_has word h))))
bare_has word (inr (inr (inr (inr (inl h))))) =
    or_right (bytes_eq word (codes "on")) (after_on word) (or_right (bytes_eq word (codes "standby")) (is_some (kind_named word) || after_kind word)
    (or_right (is_some (kind_named word)) (after_kind word) (or_right (is_text_or_dash (One Hex ∷ []) word) (is_pair word || after_pair word)
    (or_left (is_pair word) (after_pair word) (pair_has word h)))))
bare_has word (inr (inr (inr (inr (inr h))))) =
    or_right (bytes_eq word (codes "on")) (after_on word) (or_right (bytes_eq word (codes "standby")) (is_some (kind_named word) || after_kind word)
    (or_right (is_some (kind_named word)) (after_kind word) (or_right (is_text_or_dash (One Hex ∷ []) word) (is_pair word || after_pair word)
    (or_right (is_pair word) (after_pair word) (more_have h)))))
  where
    more_have : IsTextOf three_parts word ⊎ (IsTextOf four_parts word ⊎ IsTextOf physical_parts word) → after_pair word ≡ true
    more_have (inl three) = or_left (is_text three_parts word) (after_three word) (text_have three_parts refl word three)
    more_have (inr (inl four)) = or_right (is_text three_parts word) (after_three word) (or_left (is_text four_parts word) (is_text physical_parts word) (text_have four_parts refl word four))
    more_have (inr (inr phys)) = or_right (is_text three_parts word) (after_three word) (or_right (is_text four_parts word) (is_text physical_parts word) (text_have physical_parts refl word phys))

-- ---- all

pub opened : (word : List ℕ) → is_state_word word ≡ (is_bare word || list_any (is_of_field word) fields)
unfolding is_state_word
opened word = refl

word_found : (word : List ℕ) → (is_bare word || list_any (is_of_field word) fields) ≡ true → IsStateWord word
word_found word h = either (is_bare word) (list_any (is_of_field word) fields) h (λ k. inl (bare_found word k)) (λ k. inr (field_found word k))

word_has : (word : List ℕ) → IsStateWord word → (is_bare word || list_any (is_of_field word) fields) ≡ true
word_has word (inl h) = or_left (is_bare word) (list_any (is_of_field word) fields) (bare_has word h)
word_has word (inr h) = or_right (is_bare word) (list_any (is_of_field word) fields) (field_has word h)

pub state_words_are_met : StateWordsAreMet
state_words_are_met word = (λ h. word_found word (sym (opened word) ∙ h), λ h. opened word ∙ word_has word h)
