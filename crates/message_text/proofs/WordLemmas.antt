-- The words of operands: no two bytes have one word, and what no word holds.
use Rattle.std.proofs.Common.{◌≡◌, ℕ, ◌==◌, ◌&&◌, not, Bool, true, false, List, [], ◌∷◌, Option, Some, option_map, find, refl}
use Rattle.std.specs.List.{list_all}
use Rattle.std.specs.Str.{bytes_eq}
use Rattle.message_text.proofs.Finding.{named, one_code, is_at}
use Rattle.message_table.specs.WordSets.{NamedByte, word_of, words_of}
use Rattle.message_table.specs.declared.word_set.WordSet.{WordSet}
use Rattle.message_table.specs.declared.word_set.WordSet.TheVariants.{Reason, Power, OnOff, DeviceType, StatusRequest, DeckInfo, PlayMode, DeckControl, Display, MenuRequest, MenuState, Version, UserControl}

abbrev code_in : List NamedByte → List ℕ → Option ℕ
code_in words text = option_map (λ w. w.code) (find (λ w. bytes_eq w.text text) words)

all_again : (set : WordSet) → list_all (λ w. is_at (code_in (words_of set) w.text) w.code) (words_of set) ≡ true
all_again Reason = refl
all_again Power = refl
all_again OnOff = refl
all_again DeviceType = refl
all_again StatusRequest = refl
all_again DeckInfo = refl
all_again PlayMode = refl
all_again DeckControl = refl
all_again Display = refl
all_again MenuRequest = refl
all_again MenuState = refl
all_again Version = refl
all_again UserControl = refl

-- no two bytes of a set have one word
pub one_byte : (set : WordSet) (a b : ℕ) (w : List ℕ) → word_of (words_of set) a ≡ Some w → word_of (words_of set) b ≡ Some w → a ≡ b
one_byte set a b w e f = one_code (λ w. w.code) (λ w. w.text) (code_in (words_of set)) (words_of set) a b w (all_again set) e f

-- a word does not begin with a colon, and has no space
abbrev pub is_plain_word : List ℕ → Bool
is_plain_word [] = false
is_plain_word (x ∷ xs) = not (x == 58) && list_all (λ b. not (b == 32)) (x ∷ xs)

all_plain : (set : WordSet) → list_all (λ w. is_plain_word w.text) (words_of set) ≡ true
all_plain Reason = refl
all_plain Power = refl
all_plain OnOff = refl
all_plain DeviceType = refl
all_plain StatusRequest = refl
all_plain DeckInfo = refl
all_plain PlayMode = refl
all_plain DeckControl = refl
all_plain Display = refl
all_plain MenuRequest = refl
all_plain MenuState = refl
all_plain Version = refl
all_plain UserControl = refl

pub plain_word : (set : WordSet) (b : ℕ) (w : List ℕ) → word_of (words_of set) b ≡ Some w → is_plain_word w ≡ true
plain_word set b w e = named (λ w. w.code) (λ w. w.text) (λ _ t. is_plain_word t) (words_of set) b w (all_plain set) e
