-- What each text's parts say again.
use Rattle.std.proofs.Common.{◌≡◌, ℕ, ◌<◌, ◌≤◌, ◌+◌, ◌-◌, ◌*◌, ◌/◌, ◌%◌, ◌==◌, ◌&&◌, not, zero, suc, Bool, true, false, cond, nat_lt, nat_le, List, [], ◌∷◌, ◌++◌, length, Option, Some, None, option_map, slice_index, take, drop, codes, refl, sym, subst, ap, arith, decimal}
use Rattle.std.specs.List.{list_all, flat_map, position_or_len}
use Rattle.std.proofs.lemmas.Bool.Decides.{nat_tests}
use borrow.Author.Tests.{ltb-true}
use Rattle.std.proofs.lemmas.Grind.{common_steps}
use Rattle.std.proofs.lemmas.Fmt.{decimal_digit}
use Rattle.text_core.specs.Piece.{hex_text}
use Rattle.message_text.proofs.Finding.{and_left, and_right}
use Rattle.message_text.proofs.VolumeLemmas.{decimal_two, decimal_hundred}
use Rattle.text_core.specs.Bytes.{are_bytes}
use Rattle.message_text.specs.FrameReading.{within_quotes}
use Rattle.text_core.specs.Phys.{digit_value}
use Rattle.text_core.specs.Hex.{hex_at, hex_bytes}
use Rattle.text_core.specs.Number.{small_number}
use Rattle.message_text.specs.FrameText.{quoted_text, vendor_words, volume_words, with_both}
use Rattle.message_text.proofs.WordLemmas.{is_plain_word}
use Rattle.std.proofs.lemmas.Bool.{false≢true}

pub byte_first : (x : ℕ) (xs : List ℕ) → are_bytes (x ∷ xs) ≡ true → x < 256
byte_first x xs e = ltb-true _ _ (and_left (nat_lt x 256) (are_bytes xs) e)

pub bytes_rest : (x : ℕ) (xs : List ℕ) → are_bytes (x ∷ xs) ≡ true → are_bytes xs ≡ true
bytes_rest x xs e = and_right (nat_lt x 256) (are_bytes xs) e

pub same_two : (a b x y : ℕ) → a ≡ x → b ≡ y → a ∷ b ∷ [] ≡ x ∷ y ∷ []
same_two a b x y e f = cc

pub same_three : (a b c x y z : ℕ) → a ≡ x → b ≡ y → c ≡ z → a ∷ b ∷ c ∷ [] ≡ x ∷ y ∷ z ∷ []
same_three a b c x y z e f g = cc

-- the digit of a number below 16
abbrev pub digit_of : ℕ → ℕ
digit_of n = cond (nat_lt n 10) (48 + n) (87 + n)

digit_cases : (b : Bool) (n : ℕ) → nat_lt n 10 ≡ b → n < 16 → digit_value (cond b (48 + n) (87 + n)) ≡ n
digit_cases true n e h = grind (arith, nat_tests)
digit_cases false n e h = grind (arith, nat_tests)

pub digit_again : (n : ℕ) → n < 16 → digit_value (digit_of n) ≡ n
digit_again n h = digit_cases (nat_lt n 10) n refl h

joined_again : (b x y : ℕ) → b < 256 → x ≡ b / 16 → y ≡ b % 16 → x * 16 + y ≡ b
joined_again b x y h e f = omega arith

pub hex_again : (b : ℕ) → b < 256 → digit_value (digit_of (b / 16)) * 16 + digit_value (digit_of (b % 16)) ≡ b
hex_again b h = joined_again b _ _ h (digit_again (b / 16) (omega arith)) (digit_again (b % 16) (omega arith))

colon_cases : (b : Bool) (n : ℕ) → nat_lt n 10 ≡ b → (cond b (48 + n) (87 + n) == 58) ≡ false
colon_cases true n e = grind (arith, nat_tests)
colon_cases false n e = grind (arith, nat_tests)

pub digit_no_colon : (n : ℕ) → (digit_of n == 58) ≡ false
digit_no_colon n = colon_cases (nat_lt n 10) n refl

space_cases : (b : Bool) (n : ℕ) → nat_lt n 10 ≡ b → not (cond b (48 + n) (87 + n) == 32) ≡ true
space_cases true n e = grind (arith, nat_tests)
space_cases false n e = grind (arith, nat_tests)

pub digit_no_space : (n : ℕ) → not (digit_of n == 32) ≡ true
digit_no_space n = space_cases (nat_lt n 10) n refl

pub hex_bytes_again : (xs : List ℕ) → are_bytes xs ≡ true → hex_bytes (flat_map hex_text xs) ≡ xs
hex_bytes_again [] e = refl
hex_bytes_again (x ∷ xs) e =
    let head : digit_value (digit_of (x / 16)) * 16 + digit_value (digit_of (x % 16)) ≡ x = hex_again x (byte_first x xs e) in
    let tail : hex_bytes (flat_map hex_text xs) ≡ xs = hex_bytes_again xs (bytes_rest x xs e) in
    cc

pub length_hex : (xs : List ℕ) → length (flat_map hex_text xs) ≡ 2 * length xs
length_hex [] = refl
length_hex (x ∷ xs) = let e = length_hex xs in omega arith

pub chosen : (t : Bool) (x y : List ℕ) → cond t (Some x) None ≡ Some y → (t ≡ true) × (x ≡ y)
chosen true x y e = (refl, cc)
chosen false x y e = cc

pub mapped : (f : List ℕ → List ℕ) (o : Option (List ℕ)) (t : List ℕ) → option_map f o ≡ Some t → (w : List ℕ) × (o ≡ Some w) × (f w ≡ t)
mapped f None t e = cc
mapped f (Some w) t e = (w, refl, cc)

pub taken : (xs ys : List ℕ) → take (length xs) (xs ++ ys) ≡ xs
taken xs ys = grind (arith, common_steps)

pub dropped : (xs ys : List ℕ) → drop (length xs) (xs ++ ys) ≡ ys
dropped xs ys = grind (arith, common_steps)

quotes_len : (xs : List ℕ) → length (quoted_text xs) - 3 ≡ length xs
quotes_len xs = grind (arith, common_steps)

pub quotes_again : (xs : List ℕ) → within_quotes (quoted_text xs) ≡ xs
quotes_again xs = rw (quotes_len xs) (taken xs (34 ∷ []))

-- nothing, or something after a space
abbrev pub begins_blank : List ℕ → Bool
begins_blank [] = true
begins_blank (x ∷ xs) = x == 32

no_space_at : (more : List ℕ) → begins_blank more ≡ true → position_or_len (λ b. b == 32) more ≡ 0
no_space_at [] e = refl
no_space_at (x ∷ xs) e = rw e refl

-- a word with no space ends where a space or nothing follows
pub word_ends : (w more : List ℕ) → list_all (λ b. not (b == 32)) w ≡ true → begins_blank more ≡ true
    → position_or_len (λ b. b == 32) (w ++ more) ≡ length w
word_ends [] more all blank = no_space_at more blank
word_ends (x ∷ xs) more all blank =
    let here : not (x == 32) ≡ true = and_left (not (x == 32)) (list_all (λ b. not (b == 32)) xs) all in
    let rest = word_ends xs more (and_right (not (x == 32)) (list_all (λ b. not (b == 32)) xs) all) blank in
    rw here (rw rest (omega arith))

number_one : (n : ℕ) → n < 10 → small_number (decimal n) ≡ n
number_one n h = rw (decimal_digit n h) (omega arith)

two_digits : (n a b : ℕ) → a ≡ 48 + n / 10 → b ≡ 48 + n % 10 → n < 100 → (a - 48) % 16 * 10 + (b - 48) % 16 ≡ n
two_digits n a b e f h = omega arith

number_two : (n : ℕ) → 10 ≤ n → n < 100 → small_number (decimal n) ≡ n
number_two n low high = rw (decimal_two n low high) (two_digits n _ _ refl refl high)

number_hundred : (n : ℕ) → n ≡ 100 → small_number (decimal n) ≡ n
number_hundred n e = rw (decimal_hundred n e) (sym e)

number_by : (b c : Bool) (n : ℕ) → nat_lt n 10 ≡ b → nat_lt n 100 ≡ c → n ≤ 100 → small_number (decimal n) ≡ n
number_by true c n e f h = number_one n (ltb-true _ _ e)
number_by false true n e f h = number_two n (grind (arith, nat_tests)) (ltb-true _ _ f)
number_by false false n e f h = number_hundred n (grind (arith, nat_tests))

pub number_again : (n : ℕ) → n ≤ 100 → small_number (decimal n) ≡ n
number_again n h = number_by (nat_lt n 10) (nat_lt n 100) n refl refl h

abbrev sound_word : Bool → List ℕ
sound_word b = cond b (codes " mute ") (codes " sound ")

muted_by : (b : Bool) (status : ℕ) (t : List ℕ) → nat_le 128 status ≡ b → status < 256 → status % 128 ≤ 100 → sound_word b ++ decimal (status % 128) ≡ t
    → slice_index t 1 ≡ 109 → 128 + small_number (drop 6 t) % 128 ≡ status
muted_by true status t b small fits e m =
    let low : 128 ≤ status = grind (arith, nat_tests) in
    rw (← e) (rw (number_again (status % 128) fits) (omega arith))
muted_by false status t b small fits e m =
    let s : 115 ≡ slice_index t 1 = ap (λ t. slice_index t 1) e in
    absurd (omega arith)

sounding_by : (b : Bool) (status : ℕ) (t : List ℕ) → nat_le 128 status ≡ b → status < 256 → status % 128 ≤ 100 → sound_word b ++ decimal (status % 128) ≡ t
    → ((slice_index t 1 ≡ 109) → ⊥) → small_number (drop 7 t) ≡ status
sounding_by true status t b small fits e m = absurd (m (sym (ap (λ t. slice_index t 1) e)))
sounding_by false status t b small fits e m =
    let high : status < 128 = grind (arith, nat_tests) in
    rw (← e) (rw (number_again (status % 128) fits) (omega arith))

fits_volume : (status : ℕ) → nat_le (status % 128) 100 ≡ true → status % 128 ≤ 100
fits_volume status e = grind (arith, nat_tests)

pub muted_again : (status : ℕ) (t : List ℕ) → status < 256 → volume_words (status ∷ []) ≡ Some t
    → slice_index t 1 ≡ 109 → 128 + small_number (drop 6 t) % 128 ≡ status
muted_again status t small e m =
    let k = chosen (nat_le (status % 128) 100) (sound_word (nat_le 128 status) ++ decimal (status % 128)) t e in
    muted_by (nat_le 128 status) status t refl small (fits_volume status k.0) k.1 m

pub sounding_again : (status : ℕ) (t : List ℕ) → status < 256 → volume_words (status ∷ []) ≡ Some t
    → ((slice_index t 1 ≡ 109) → ⊥) → small_number (drop 7 t) ≡ status
sounding_again status t small e m =
    let k = chosen (nat_le (status % 128) 100) (sound_word (nat_le 128 status) ++ decimal (status % 128)) t e in
    sounding_by (nat_le 128 status) status t refl small (fits_volume status k.0) k.1 m

pub vendor_again : (xs t : List ℕ) → are_bytes xs ≡ true → vendor_words xs ≡ Some t → hex_at t 1 2 ∷ hex_at t 3 4 ∷ hex_at t 5 6 ∷ [] ≡ xs
vendor_again [] t bytes e = cc
vendor_again (a ∷ []) t bytes e = cc
vendor_again (a ∷ b ∷ []) t bytes e = cc
vendor_again (a ∷ b ∷ c ∷ []) t bytes e =
    let is : 32 ∷ hex_text a ++ hex_text b ++ hex_text c ≡ t = cc in
    let more = bytes_rest a (b ∷ c ∷ []) bytes in
    rw (← is) (same_three _ _ _ _ _ _
    (hex_again a (byte_first a (b ∷ c ∷ []) bytes))
    (hex_again b (byte_first b (c ∷ []) more))
    (hex_again c (byte_first c [] (bytes_rest b (c ∷ []) more))))
vendor_again (a ∷ b ∷ c ∷ d ∷ xs) t bytes e = cc

-- two texts, both there, and the whole of them
pub record Parts (o p : Option (List ℕ)) (t : List ℕ) : Type 0 where
  pub first : List ℕ
  pub second : List ℕ
  pub is_first : o ≡ Some first
  pub is_second : p ≡ Some second
  pub whole : first ++ second ≡ t

pub both_parts : (o p : Option (List ℕ)) (t : List ℕ) → with_both o p ≡ Some t → Parts o p t
both_parts None p t e = cc
both_parts (Some v) None t e = cc
both_parts (Some v) (Some w) t e = record { first = v; second = w; is_first = refl; is_second = refl; whole = cc }

-- a space, and characters that are none; the first is no colon
abbrev pub is_word : List ℕ → Bool
is_word [] = false
is_word (x ∷ xs) = (x == 32) && is_plain_word xs

plain_ends : (w : List ℕ) → is_plain_word w ≡ true → list_all (λ b. not (b == 32)) w ≡ true
plain_ends [] h = refl
plain_ends (x ∷ xs) h = and_right (not (x == 58)) (list_all (λ b. not (b == 32)) (x ∷ xs)) h

pub word_blank : (v : List ℕ) → is_word v ≡ true → begins_blank v ≡ true
word_blank [] h = refl
word_blank (x ∷ xs) h = and_left (x == 32) (is_plain_word xs) h

-- where the second of two words begins
abbrev pub second_at : List ℕ → ℕ
second_at t = suc (position_or_len (λ b. b == 32) (drop 1 t))

pub two_again : (v w t : List ℕ) → is_word v ≡ true → begins_blank w ≡ true → v ++ w ≡ t
    → (take (second_at t) t ≡ v) × (drop (second_at t) t ≡ w)
two_again [] w t h blank e = absurd (false≢true h)
two_again (x ∷ xs) w t h blank e =
    let ends : position_or_len (λ b. b == 32) (xs ++ w) ≡ length xs =
    word_ends xs w (plain_ends xs (and_right (x == 32) (is_plain_word xs) h)) blank in
    subst (λ t. (take (second_at t) t ≡ x ∷ xs) × (drop (second_at t) t ≡ w)) e
    (rw ends (ap (λ ys. x ∷ ys) (taken xs w), dropped xs w))

pub bytes_taken : (n : ℕ) (xs : List ℕ) → are_bytes xs ≡ true → are_bytes (take n xs) ≡ true
bytes_taken zero xs e = refl
bytes_taken (suc n) [] e = refl
bytes_taken (suc n) (x ∷ xs) e =
    rw (and_left (nat_lt x 256) (are_bytes xs) e) (bytes_taken n xs (bytes_rest x xs e))

pub bytes_dropped : (n : ℕ) (xs : List ℕ) → are_bytes xs ≡ true → are_bytes (drop n xs) ≡ true
bytes_dropped zero xs e = e
bytes_dropped (suc n) [] e = refl
bytes_dropped (suc n) (x ∷ xs) e = bytes_dropped n xs (bytes_rest x xs e)

pub parted : (n : ℕ) (xs : List ℕ) → take n xs ++ drop n xs ≡ xs
parted n xs = grind (arith, common_steps)

pub parted_length : (n : ℕ) (xs : List ℕ) → length (take n xs) + length (drop n xs) ≡ length xs
parted_length n xs = grind (arith, common_steps)
