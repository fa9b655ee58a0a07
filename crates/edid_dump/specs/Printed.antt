-- How the bytes of an EDID are printed in hex, and that what is printed is read back. The bytes may be parted into lines in any way.
use Rattle.std.specs.Prelude.{map, if◌then◌else◌, nat_le, ◌&&◌, ◌/◌, ◌+◌, ◌==◌, ◌≡◌, ℕ, ◌%◌, ◌<◌, ◌≤◌, false, List, [], ◌∷◌, ◌++◌, length, take, drop, All, codes, None, Ok}
use Rattle.std.specs.List.{concat, flat_map}
use Rattle.text_core.specs.Piece.{hex_text}
use Rattle.edid_dump.specs.Rows.{form_of, header}
use Rattle.edid_dump.specs.Dump.{edid_in_dump}

-- The bytes of one to four blocks that begin with the header, parted into lines of which the first has the header.
pub record IsParted (first : List ℕ) (parts : List (List ℕ)) : Type 0 where
  pub bytes : All (λ part. All (λ b. b < 256) part) (first ∷ parts)
  pub begins : take 8 first ≡ header
  pub blocks : length (concat (first ∷ parts)) % 128 ≡ 0
  pub most : length (concat (first ∷ parts)) ≤ 512

-- ---- plain digits: `xxd -p`, and `edid --text`, which prints one line

abbrev pub digits_line : List ℕ → List ℕ
digits_line part = flat_map hex_text part ++ codes "\n"

abbrev pub DigitsAreRead : Type 0
DigitsAreRead = (first : List ℕ) (parts : List (List ℕ)) → IsParted first parts → edid_in_dump (flat_map digits_line (first ∷ parts)) ≡ Ok (concat (first ∷ parts))

-- ---- pairs one space apart: `edid-decode`, where the line between two blocks has none

abbrev pub pairs_text : List ℕ → List ℕ
pairs_text [] = []
pairs_text (b ∷ []) = hex_text b
pairs_text (b ∷ c ∷ more) = hex_text b ++ 32 ∷ pairs_text (c ∷ more)

abbrev pub pairs_line : List ℕ → List ℕ
pairs_line part = pairs_text part ++ codes "\n"

abbrev pub PairsAreRead : Type 0
PairsAreRead = (first : List ℕ) (parts : List (List ℕ)) → IsParted first parts → edid_in_dump (flat_map pairs_line (first ∷ parts)) ≡ Ok (concat (first ∷ parts))

-- ---- `xxd`: an offset and a colon, bytes by twos, and their characters after two spaces

-- eight digits of a place below 65,536
abbrev pub offset_text : ℕ → List ℕ
offset_text place = codes "0000" ++ (hex_text (place / 256) ++ hex_text (place % 256))

abbrev pub by_twos : List ℕ → List ℕ
by_twos [] = []
by_twos (b ∷ []) = 32 ∷ hex_text b
by_twos (b ∷ c ∷ more) = 32 ∷ hex_text b ++ (hex_text c ++ by_twos more)

-- a character of ASCII, and a dot for any other byte
abbrev pub character : ℕ → ℕ
character b = if nat_le 32 b && nat_le b 126 then b else 46

abbrev pub colon_line : ℕ → List ℕ → List ℕ
colon_line place part = offset_text place ++ (58 ∷ (by_twos part ++ (32 ∷ 32 ∷ map character part)))

abbrev pub colon_text : ℕ → List (List ℕ) → List ℕ
colon_text place [] = []
colon_text place (part ∷ parts) = colon_line place part ++ 10 ∷ colon_text (place + length part) parts

abbrev pub OffsetsAreRead : Type 0
OffsetsAreRead = (first : List ℕ) (parts : List (List ℕ)) → IsParted first parts → edid_in_dump (colon_text 0 (first ∷ parts)) ≡ Ok (concat (first ∷ parts))

-- ---- `hexdump -C -v`: an offset, pairs one space apart in two halves, characters between bars; at the end the count of bytes

abbrev pub bars_line : ℕ → List ℕ → List ℕ
bars_line place part =
    offset_text place ++ (32 ∷ 32 ∷ pairs_text (take 8 part) ++ (32 ∷ 32 ∷ pairs_text (drop 8 part) ++ (32 ∷ 32 ∷ 124 ∷ (map character part ++ 124 ∷ []))))

abbrev pub bars_text : ℕ → List (List ℕ) → List ℕ
bars_text place [] = offset_text place ++ 10 ∷ []
bars_text place (part ∷ parts) = bars_line place part ++ 10 ∷ bars_text (place + length part) parts

abbrev pub BarsAreRead : Type 0
BarsAreRead = (first : List ℕ) (parts : List (List ℕ)) → IsParted first parts → edid_in_dump (bars_text 0 (first ∷ parts)) ≡ Ok (concat (first ∷ parts))

-- ---- other text before a dump

-- lines on none of which an EDID begins
pub record AreOthers (lines : List (List ℕ)) : Type 0 where
  pub plain : All (λ line. All (λ c. (c == 10) ≡ false) line) lines
  pub none : All (λ line. form_of line ≡ None) lines

abbrev pub text_of : List (List ℕ) → List ℕ
text_of lines = flat_map (λ line. line ++ 10 ∷ []) lines

abbrev pub TextBeforeIsPassedOver : Type 0
TextBeforeIsPassedOver = (lines : List (List ℕ)) (text bytes : List ℕ) → AreOthers lines → edid_in_dump text ≡ Ok bytes → edid_in_dump (text_of lines ++ text) ≡ Ok bytes
