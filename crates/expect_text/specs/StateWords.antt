-- The words that a device's state line can have after the device's name (own), whatever the device and its kind: each value that a
-- record can have, as it is written.
use Rattle.std.specs.Prelude.{◌≡◌, ℕ, ◌≤◌, ◌⊎◌, codes, length, true, List, [], ◌∷◌, ◌++◌}
use Rattle.std.specs.Fmt.{decimal}
use Rattle.std.specs.List.{flat_map}
use Rattle.text_core.specs.Bytes.{are_bytes}
use Rattle.text_core.specs.Kind.{kind_word}
use Rattle.text_core.specs.Piece.{hex_text}
use Rattle.text_core.specs.declared.kind.Kind.{Kind}
use Rattle.expect_text.specs.Parts.{IsTextOf}
use Rattle.expect_text.specs.declared.part.PatternPart.{PatternPart}
use Rattle.expect_text.specs.declared.part.PatternPart.TheVariants.{Byte, One}
use Rattle.expect_text.specs.declared.part.Class.TheVariants.{Hex}
use Rattle.expect_text.specs.declared.state_words.StateField.{StateField}
use Rattle.expect_text.specs.declared.state_words.StateField.TheVariants.{Active, Path, Deck, Menu, Audio, Volume, Mute, Arc, Selected, Language, Osd, Held, Heard, Sub, Queue, Dropped}
use Rattle.expect_text.specs.declared.state_words.Value.{Value}
use Rattle.expect_text.specs.declared.state_words.Value.TheVariants as value

-- ---- values

abbrev pub physical_parts : List PatternPart
physical_parts = One Hex ∷ Byte 46 ∷ One Hex ∷ Byte 46 ∷ One Hex ∷ Byte 46 ∷ One Hex ∷ []

abbrev pub note_parts : List PatternPart
note_parts = One Hex ∷ Byte 58 ∷ One Hex ∷ One Hex ∷ Byte 58 ∷ One Hex ∷ One Hex ∷ []

-- three and four addresses, as a device from outside may hold
abbrev pub three_parts : List PatternPart
three_parts = One Hex ∷ Byte 43 ∷ One Hex ∷ Byte 43 ∷ One Hex ∷ []

abbrev pub four_parts : List PatternPart
four_parts = One Hex ∷ Byte 43 ∷ One Hex ∷ Byte 43 ∷ One Hex ∷ Byte 43 ∷ One Hex ∷ []

-- what stands for no value
abbrev pub IsDash : List ℕ → Type 0
IsDash text = text ≡ codes "-"

-- a number up to this one
abbrev pub IsNumber : ℕ → List ℕ → Type 0
IsNumber most text = (n : ℕ) × (n ≤ most) × (text ≡ decimal n)

-- from so many bytes to so many
abbrev pub AreBytes : ℕ → ℕ → List ℕ → Type 0
AreBytes least most text = (bytes : List ℕ) × (are_bytes bytes ≡ true) × (least ≤ length bytes) × (length bytes ≤ most) × (text ≡ flat_map hex_text bytes)

abbrev pub IsValue : Value → List ℕ → Type 0
IsValue value.Switch text = (text ≡ codes "on") ⊎ ((text ≡ codes "off") ⊎ IsDash text)
IsValue value.Physical text = IsTextOf physical_parts text ⊎ IsDash text
IsValue value.Byte text = IsTextOf (One Hex ∷ One Hex ∷ []) text ⊎ IsDash text
IsValue (value.Number most) text = IsNumber most text ⊎ IsDash text
IsValue (value.Bytes least most) text = AreBytes least most text ⊎ IsDash text
IsValue value.Note text = IsTextOf note_parts text ⊎ IsDash text
IsValue value.Nibble text = IsTextOf (One Hex ∷ []) text ⊎ IsDash text
IsValue (value.Count most) text = IsNumber most text

-- ---- fields

abbrev pub key : StateField → List ℕ
key Active = codes "active="
key Path = codes "path="
key Deck = codes "deck="
key Menu = codes "menu="
key Audio = codes "audio="
key Volume = codes "volume="
key Mute = codes "mute="
key Arc = codes "arc="
key Selected = codes "sel="
key Language = codes "lang="
key Osd = codes "osd="
key Held = codes "held="
key Heard = codes "heard="
key Sub = codes "sub="
key Queue = codes "queue="
key Dropped = codes "dropped="

abbrev pub value_of : StateField → Value
value_of Active = value.Physical
value_of Path = value.Physical
value_of Deck = value.Byte
value_of Menu = value.Switch
value_of Audio = value.Switch
value_of Volume = value.Number 100
value_of Mute = value.Switch
value_of Arc = value.Switch
value_of Selected = value.Number 15
value_of Language = value.Bytes 3 3
value_of Osd = value.Bytes 1 16
value_of Held = value.Byte
value_of Heard = value.Note
value_of Sub = value.Nibble
value_of Queue = value.Count 16
value_of Dropped = value.Count 18446744073709551615

abbrev pub IsField : List ℕ → Type 0
IsField word = (field : StateField) × (text : List ℕ) × (word ≡ key field ++ text) × IsValue (value_of field) text

-- ---- words without a key

-- a logical address, or none
abbrev pub IsUnit : List ℕ → Type 0
IsUnit text = IsTextOf (One Hex ∷ []) text ⊎ IsDash text

-- those of two units, of which the second one settles last, and two that a device from outside holds
abbrev pub IsPair : List ℕ → Type 0
IsPair word = ((first second : List ℕ) × (word ≡ first ++ 43 ∷ second) × IsTextOf (One Hex ∷ []) first × IsUnit second) ⊎ (word ≡ codes "-+-")

-- the power, a kind, logical addresses, or a physical address
abbrev pub IsBare : List ℕ → Type 0
IsBare word =
    (word ≡ codes "on") ⊎ ((word ≡ codes "standby") ⊎ (((kind : Kind) × (word ≡ kind_word kind)) ⊎ (IsUnit word ⊎ (IsPair word ⊎ (IsTextOf three_parts word ⊎ (IsTextOf four_parts word ⊎ IsTextOf physical_parts word))))))

-- a word that a state line can have
abbrev pub IsStateWord : List ℕ → Type 0
IsStateWord word = IsBare word ⊎ IsField word
