-- The words of the operands that have words (CEC operand descriptions; the spelling is own).
use Rattle.std.specs.Prelude.{ℕ, ◌==◌, Bool, not, Option, List, [], ◌∷◌, codes, find, option_map}
use Rattle.std.specs.List.{list_any}
use Rattle.message_table.specs.declared.word_set.NamedByte.{NamedByte as CodeWord}
use Rattle.message_table.specs.declared.word_set.WordSet.{WordSet}
use Rattle.message_table.specs.declared.word_set.WordSet.TheVariants.{Reason, Power, OnOff, DeviceType, StatusRequest, DeckInfo, PlayMode, DeckControl, Display, MenuRequest, MenuState, Version, UserControl}

-- a byte and the word that stands for it
pub record NamedByte : Type 0 where
  pub code : ℕ
  pub text : List ℕ

abbrev pub word : ℕ → List ℕ → NamedByte
word code text = record { code = code; text = text }

-- the same of the code
abbrev pub word_in_code : CodeWord → NamedByte
word_in_code w = word w.byte w.text.now

-- the words of each set
abbrev pub words_of : WordSet → List NamedByte
words_of Reason =
    word 0 (codes "unrecognized") ∷
    word 1 (codes "wrong-mode") ∷
    word 2 (codes "no-source") ∷
    word 3 (codes "invalid-operand") ∷
    word 4 (codes "refused") ∷
    []
words_of Power =
    word 0 (codes "on") ∷
    word 1 (codes "standby") ∷
    []
words_of OnOff =
    word 0 (codes "off") ∷
    word 1 (codes "on") ∷
    []
words_of DeviceType =
    word 0 (codes "tv") ∷
    word 1 (codes "recorder") ∷
    word 3 (codes "tuner") ∷
    word 4 (codes "playback") ∷
    word 5 (codes "audio") ∷
    word 6 (codes "switch") ∷
    []
words_of StatusRequest =
    word 1 (codes "on") ∷
    word 2 (codes "off") ∷
    word 3 (codes "once") ∷
    []
words_of DeckInfo =
    word 0x11 (codes "play") ∷
    word 0x14 (codes "still") ∷
    word 0x17 (codes "fast-forward") ∷
    word 0x18 (codes "fast-reverse") ∷
    word 0x19 (codes "no-media") ∷
    word 0x1a (codes "stop") ∷
    word 0x1b (codes "skip-forward") ∷
    word 0x1c (codes "skip-reverse") ∷
    []
words_of PlayMode =
    word 0x24 (codes "forward") ∷
    word 0x25 (codes "still") ∷
    word 0x05 (codes "ff-min") ∷
    word 0x06 (codes "ff-mid") ∷
    word 0x07 (codes "ff-max") ∷
    word 0x09 (codes "fr-min") ∷
    word 0x0a (codes "fr-mid") ∷
    word 0x0b (codes "fr-max") ∷
    []
words_of DeckControl =
    word 1 (codes "skip-forward") ∷
    word 2 (codes "skip-reverse") ∷
    word 3 (codes "stop") ∷
    word 4 (codes "eject") ∷
    []
words_of Display =
    word 0x00 (codes "default") ∷
    word 0x40 (codes "hold") ∷
    word 0x80 (codes "clear") ∷
    []
words_of MenuRequest =
    word 0 (codes "activate") ∷
    word 1 (codes "deactivate") ∷
    word 2 (codes "query") ∷
    []
words_of MenuState =
    word 0 (codes "activated") ∷
    word 1 (codes "deactivated") ∷
    []
words_of Version =
    word 0x05 (codes "1.4") ∷
    []
words_of UserControl =
    word 0x00 (codes "select") ∷
    word 0x01 (codes "up") ∷
    word 0x02 (codes "down") ∷
    word 0x03 (codes "left") ∷
    word 0x04 (codes "right") ∷
    word 0x09 (codes "root-menu") ∷
    word 0x0d (codes "exit") ∷
    word 0x20 (codes "digit-0") ∷
    word 0x21 (codes "digit-1") ∷
    word 0x22 (codes "digit-2") ∷
    word 0x23 (codes "digit-3") ∷
    word 0x24 (codes "digit-4") ∷
    word 0x25 (codes "digit-5") ∷
    word 0x26 (codes "digit-6") ∷
    word 0x27 (codes "digit-7") ∷
    word 0x28 (codes "digit-8") ∷
    word 0x29 (codes "digit-9") ∷
    word 0x40 (codes "power") ∷
    word 0x41 (codes "volume-up") ∷
    word 0x42 (codes "volume-down") ∷
    word 0x43 (codes "mute") ∷
    word 0x44 (codes "play") ∷
    word 0x45 (codes "stop") ∷
    word 0x46 (codes "pause") ∷
    word 0x6c (codes "power-off") ∷
    word 0x6d (codes "power-on") ∷
    []

-- the word of a byte
abbrev pub word_of : List NamedByte → ℕ → Option (List ℕ)
word_of words byte = option_map (λ w. w.text) (find (λ w. w.code == byte) words)

-- no word of the set stands for this byte
abbrev pub is_unlisted : WordSet → ℕ → Bool
is_unlisted set byte = not (list_any (λ w. w.code == byte) (words_of set))
