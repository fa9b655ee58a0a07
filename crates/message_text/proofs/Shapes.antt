-- What the words of operands never look like: they stand after a space, and do not begin with a colon.
use Rattle.std.proofs.Common.{◌≡◌, ℕ, ◌<◌, ◌≤◌, ◌/◌, ◌%◌, ◌==◌, ◌&&◌, not, Bool, true, false, cond, nat_le, List, [], ◌∷◌, ◌++◌, length, Option, Some, None, unwrap_or, slice_index, take, drop, codes, refl, sym, ap, ◌∙◌, arith, decimal}
use Rattle.std.specs.List.{list_all, flat_map}
use Rattle.std.proofs.lemmas.Bool.Decides.{nat_tests}
use Rattle.text_core.specs.Piece.{hex_text}
use Rattle.message_text.proofs.Finding.{and_left, and_right}
use Rattle.message_text.proofs.WordLemmas.{plain_word, is_plain_word}
use Rattle.std.proofs.lemmas.List.{append-nil, take_all}
use Rattle.std.proofs.lemmas.Bool.{eqb-true, false≢true}
use Rattle.message_text.proofs.Spelled.{begins_blank, both_parts, byte_first, quotes_again, second_at, two_again, chosen, is_word, mapped, digit_no_colon, digit_no_space, hex_bytes_again, length_hex}
use Rattle.text_core.specs.Bytes.{are_bytes}
use Rattle.message_text.specs.FrameReading.{within_quotes}
use Rattle.text_core.specs.Hex.{hex_bytes}
use Rattle.message_table.specs.WordSets.{word_of, words_of}
use Rattle.message_text.specs.FrameText.{address_word, address_words, byte_words, is_letter, is_text, language_words, nothing_words, operand_word, operand_words, operands_text, optional_word, quoted_text, raw_text, set_words, spaced_word, text_words, two_words, vendor_words, volume_words, word_and_text}
use Rattle.message_table.specs.declared.word_set.WordSet.{WordSet}
use Rattle.message_table.specs.declared.operand.Operand.{Operand}
use Rattle.message_table.specs.declared.operand.Operand.TheVariants.{Byte, Word, Language, Vendor, Address}
use Rattle.message_table.specs.declared.operand.Operands.{Operands}
use Rattle.message_table.specs.declared.operand.Operands.TheVariants.{Raw, Nothing, One, Optional, Two, Volume, Text, WordAndText}
use Rattle.message_table.specs.Operands.{size_of}

abbrev pub is_shaped : List ℕ → Bool
is_shaped t = begins_blank t && not (slice_index t 1 == 58)

plain_shaped : (v more t : List ℕ) → is_plain_word v ≡ true → 32 ∷ (v ++ more) ≡ t → is_shaped t ≡ true
plain_shaped [] more t h e = cc
plain_shaped (x ∷ xs) more t h e = rw (← e) (and_left (not (x == 58)) (list_all (λ b. not (b == 32)) (x ∷ xs)) h)

letter_plain : (a : ℕ) → is_letter a ≡ true → ((a == 58) ≡ false) × (not (a == 32) ≡ true)
letter_plain a h = (grind (arith, nat_tests), grind (arith, nat_tests))

byte_is_word : (xs t : List ℕ) → byte_words xs ≡ Some t → is_word t ≡ true
byte_is_word [] t e = cc
byte_is_word (a ∷ []) t e =
    let is : 32 ∷ hex_text a ≡ t = cc in
    rw (← is) (rw (digit_no_colon (a / 16), digit_no_space (a / 16), digit_no_space (a % 16)) refl)
byte_is_word (a ∷ b ∷ xs) t e = cc

set_is_word : (set : WordSet) (xs t : List ℕ) → set_words set xs ≡ Some t → is_word t ≡ true
set_is_word set [] t e = cc
set_is_word set (b ∷ []) t e =
    let k = mapped (λ w. 32 ∷ w) (word_of (words_of set) b) t e in
    rw (← k.2) (plain_word set b k.0 k.1)
set_is_word set (b ∷ c ∷ xs) t e = cc

language_is_word : (xs t : List ℕ) → language_words xs ≡ Some t → is_word t ≡ true
language_is_word [] t e = cc
language_is_word (a ∷ []) t e = cc
language_is_word (a ∷ b ∷ []) t e = cc
language_is_word (a ∷ b ∷ c ∷ []) t e =
    let k = chosen (is_letter a && is_letter b && is_letter c) (32 ∷ a ∷ b ∷ c ∷ []) t e in
    let ab = and_left (is_letter a && is_letter b) (is_letter c) k.0 in
    let pa = letter_plain a (and_left (is_letter a) (is_letter b) ab) in
    let pb = letter_plain b (and_right (is_letter a) (is_letter b) ab) in
    let pc = letter_plain c (and_right (is_letter a && is_letter b) (is_letter c) k.0) in
    rw (← k.1) (rw (pa.0, pa.1, pb.1, pc.1) refl)
language_is_word (a ∷ b ∷ c ∷ d ∷ xs) t e = cc

vendor_is_word : (xs t : List ℕ) → vendor_words xs ≡ Some t → is_word t ≡ true
vendor_is_word [] t e = cc
vendor_is_word (a ∷ []) t e = cc
vendor_is_word (a ∷ b ∷ []) t e = cc
vendor_is_word (a ∷ b ∷ c ∷ []) t e =
    let is : 32 ∷ hex_text a ++ hex_text b ++ hex_text c ≡ t = cc in
    rw (← is) (rw (digit_no_colon (a / 16), digit_no_space (a / 16), digit_no_space (a % 16), digit_no_space (b / 16), digit_no_space (b % 16), digit_no_space (c / 16), digit_no_space (c % 16)) refl)
vendor_is_word (a ∷ b ∷ c ∷ d ∷ xs) t e = cc

address_is_word : (xs t : List ℕ) → address_words xs ≡ Some t → is_word t ≡ true
address_is_word [] t e = cc
address_is_word (a ∷ []) t e = cc
address_is_word (a ∷ b ∷ []) t e =
    let is : address_word a b ≡ t = cc in
    rw (← is) (rw (digit_no_colon (a / 16), digit_no_space (a / 16), digit_no_space (a % 16), digit_no_space (b / 16), digit_no_space (b % 16)) refl)
address_is_word (a ∷ b ∷ c ∷ xs) t e = cc

pub operand_is_word : (operand : Operand) (xs t : List ℕ) → operand_word operand xs ≡ Some t → is_word t ≡ true
operand_is_word Byte xs t e = byte_is_word xs t e
operand_is_word (Word set) xs t e = set_is_word set xs t e
operand_is_word Language xs t e = language_is_word xs t e
operand_is_word Vendor xs t e = vendor_is_word xs t e
operand_is_word Address xs t e = address_is_word xs t e

word_shaped : (v more t : List ℕ) → is_word v ≡ true → v ++ more ≡ t → is_shaped t ≡ true
word_shaped [] more t h e = cc
word_shaped (s ∷ v) more t h e = plain_shaped v more t (and_right (s == 32) (is_plain_word v) h)
    (rw (eqb-true _ _ (and_left (s == 32) (is_plain_word v) h)) at e)

operand_shaped : (operand : Operand) (xs t : List ℕ) → operand_word operand xs ≡ Some t → is_shaped t ≡ true
operand_shaped operand xs t e = word_shaped t [] t (operand_is_word operand xs t e) (append-nil t)

optional_shaped : (operand : Operand) (xs t : List ℕ) → optional_word operand xs ≡ Some t → is_shaped t ≡ true
optional_shaped operand [] t e = let is : [] ≡ t = cc in rw (← is) refl
optional_shaped operand (x ∷ xs) t e = operand_shaped operand (x ∷ xs) t e

two_shaped : (a b : Operand) (xs t : List ℕ) → two_words a b xs ≡ Some t → is_shaped t ≡ true
two_shaped a b xs t e =
    let k = both_parts (operand_word a (take (size_of a) xs)) (operand_word b (drop (size_of a) xs)) t e in
    word_shaped k.first k.second t (operand_is_word a (take (size_of a) xs) k.first k.is_first) k.whole

nothing_shaped : (xs t : List ℕ) → nothing_words xs ≡ Some t → is_shaped t ≡ true
nothing_shaped [] t e = let is : [] ≡ t = cc in rw (← is) refl
nothing_shaped (x ∷ xs) t e = cc

text_shaped : (xs t : List ℕ) → text_words xs ≡ Some t → is_shaped t ≡ true
text_shaped xs t e =
    let k = chosen (is_text 14 xs) (quoted_text xs) t e in
    rw (← k.1) refl

chosen_word : (b : Bool) (o : Option (List ℕ)) (t : List ℕ) → cond b o None ≡ Some t → o ≡ Some t
chosen_word true o t e = e
chosen_word false o t e = cc

with_text_shaped : (set : WordSet) (xs t : List ℕ) → word_and_text set xs ≡ Some t → is_shaped t ≡ true
with_text_shaped set [] t e = cc
with_text_shaped set (d ∷ []) t e = operand_shaped (Word set) (d ∷ []) t e
with_text_shaped set (d ∷ x ∷ xs) t e =
    let k = mapped (λ w. w ++ quoted_text (x ∷ xs)) (spaced_word set d) t (chosen_word (is_text 13 (x ∷ xs)) _ t e) in
    word_shaped k.0 (quoted_text (x ∷ xs)) t (set_is_word set (d ∷ []) k.0 k.1) k.2

sound_shaped : (b : Bool) (more t : List ℕ) → cond b (codes " mute ") (codes " sound ") ++ more ≡ t → is_shaped t ≡ true
sound_shaped true more t e = rw (← e) refl
sound_shaped false more t e = rw (← e) refl

volume_shaped : (xs t : List ℕ) → volume_words xs ≡ Some t → is_shaped t ≡ true
volume_shaped [] t e = cc
volume_shaped (a ∷ []) t e =
    let k = chosen (nat_le (a % 128) 100) (cond (nat_le 128 a) (codes " mute ") (codes " sound ") ++ decimal (a % 128)) t e in
    sound_shaped (nat_le 128 a) (decimal (a % 128)) t k.1
volume_shaped (a ∷ b ∷ xs) t e = cc

pub shaped : (form : Operands) (xs t : List ℕ) → operand_words form xs ≡ Some t → is_shaped t ≡ true
shaped Raw xs t e = cc
shaped Nothing xs t e = nothing_shaped xs t e
shaped (One a) xs t e = operand_shaped a xs t e
shaped (Optional a) xs t e = optional_shaped a xs t e
shaped (Two a b) xs t e = two_shaped a b xs t e
shaped Volume xs t e = volume_shaped xs t e
shaped Text xs t e = text_shaped xs t e
shaped (WordAndText set) xs t e = with_text_shaped set xs t e

-- a word of a set, and what stands after it
pub word_cut : (set : WordSet) (d : ℕ) (v more t : List ℕ) → spaced_word set d ≡ Some v → begins_blank more ≡ true → v ++ more ≡ t
    → (spaced_word set d ≡ Some (take (second_at t) t)) × (drop (second_at t) t ≡ more)
word_cut set d v more t e blank is =
    let cut = two_again v more t (set_is_word set (d ∷ []) v e) blank is in
    (e ∙ ap (λ v. Some v) (sym cut.0), cut.1)

abbrev Reads : WordSet → List ℕ → ℕ → Type 0
Reads set t r = (b : ℕ) → b < 256 → spaced_word set b ≡ Some (take (second_at t) t) → r ≡ b

pub word_alone : (set : WordSet) (xs t : List ℕ) (r : ℕ) → are_bytes xs ≡ true → word_and_text set xs ≡ Some t → Reads set t r
    → drop (second_at t) t ≡ [] → r ∷ [] ≡ xs
word_alone set [] t r bytes e read none = cc
word_alone set (d ∷ []) t r bytes e read none =
    let cut = word_cut set d t [] t e refl (append-nil t) in
    ap (λ b. b ∷ []) (read d (byte_first d [] bytes) cut.0)
word_alone set (d ∷ x ∷ xs) t r bytes e read none =
    let k = mapped (λ w. w ++ quoted_text (x ∷ xs)) (spaced_word set d) t (chosen_word (is_text 13 (x ∷ xs)) _ t e) in
    let cut = word_cut set d k.0 (quoted_text (x ∷ xs)) t k.1 refl k.2 in
    let same : quoted_text (x ∷ xs) ≡ [] = sym cut.1 ∙ none in
    cc

pub word_with_text : (set : WordSet) (xs t : List ℕ) (r : ℕ) → are_bytes xs ≡ true → word_and_text set xs ≡ Some t → Reads set t r
    → (drop (second_at t) t ≡ [] → ⊥) → r ∷ within_quotes (drop (second_at t) t) ≡ xs
word_with_text set [] t r bytes e read some = cc
word_with_text set (d ∷ []) t r bytes e read some =
    absurd (some (word_cut set d t [] t e refl (append-nil t)).1)
word_with_text set (d ∷ x ∷ xs) t r bytes e read some =
    let k = mapped (λ w. w ++ quoted_text (x ∷ xs)) (spaced_word set d) t (chosen_word (is_text 13 (x ∷ xs)) _ t e) in
    let cut = word_cut set d k.0 (quoted_text (x ∷ xs)) t k.1 refl k.2 in
    let same : r ≡ d = read d (byte_first d (x ∷ xs) bytes) cut.0 in
    let text : within_quotes (drop (second_at t) t) ≡ x ∷ xs = rw cut.1 (quotes_again (x ∷ xs)) in
    cc (same, text)

blank_by : (o : Option (List ℕ)) (raw : List ℕ) → ((t : List ℕ) → o ≡ Some t → is_shaped t ≡ true) → begins_blank (unwrap_or o (32 ∷ raw)) ≡ true
blank_by None raw h = refl
blank_by (Some t) raw h = and_left (begins_blank t) (not (slice_index t 1 == 58)) (h t refl)

-- operands are nothing, or stand after a space
pub operands_blank : (form : Operands) (xs : List ℕ) → begins_blank (operands_text form xs) ≡ true
operands_blank form xs = blank_by (operand_words form xs) (58 ∷ flat_map hex_text xs) (shaped form xs)

raw_by : (o : Option (List ℕ)) (xs t : List ℕ) → are_bytes xs ≡ true → length xs ≤ 14 → t ≡ unwrap_or o (raw_text xs)
    → ((w : List ℕ) → o ≡ Some w → is_shaped w ≡ true) → slice_index t 1 ≡ 58 → hex_bytes (take 28 (drop 2 t)) ≡ xs
raw_by None xs t bytes len e h colon =
    let short : length (flat_map hex_text xs) ≤ 28 = rw (length_hex xs) (omega arith) in
    rw e (rw (take_all 28 (flat_map hex_text xs) short) (hex_bytes_again xs bytes))
raw_by (Some w) xs t bytes len e h colon =
    let other : not (slice_index w 1 == 58) ≡ true = and_right (begins_blank w) (not (slice_index w 1 == 58)) (h w refl) in
    let same : slice_index w 1 ≡ 58 = ap (λ t. slice_index t 1) (sym e) ∙ colon in
    absurd (false≢true (rw same at other))

-- operands after a colon are raw
pub raw_again : (form : Operands) (xs t : List ℕ) → are_bytes xs ≡ true → length xs ≤ 14 → t ≡ operands_text form xs
    → slice_index t 1 ≡ 58 → hex_bytes (take 28 (drop 2 t)) ≡ xs
raw_again form xs t bytes len e colon = raw_by (operand_words form xs) xs t bytes len e (shaped form xs) colon

words_by : (o : Option (List ℕ)) (xs t : List ℕ) → t ≡ unwrap_or o (raw_text xs) → (slice_index t 1 ≡ 58 → ⊥) → o ≡ Some t
words_by None xs t e n = absurd (n (ap (λ t. slice_index t 1) e))
words_by (Some w) xs t e n = cc

-- and operands after no colon are words
pub words_again : (form : Operands) (xs t : List ℕ) → t ≡ operands_text form xs → (slice_index t 1 ≡ 58 → ⊥) → operand_words form xs ≡ Some t
words_again form xs t e n = words_by (operand_words form xs) xs t e n
