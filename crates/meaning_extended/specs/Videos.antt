-- What the blocks of format preference and of the 4:2:0 capability map mean (CTA-861-G, sections 7.5.12 and 7.5.11), of the bytes after the extended tag.
use Rattle.std.specs.Prelude.{ℕ, ◌+◌, ◌-◌, ◌==◌, ◌&&◌, ◌||◌, nat_le, Bool, if◌then◌else◌, List, [], ◌∷◌, ◌++◌, map, take, drop, length, codes}
use Rattle.meaning_words.specs.Notes.{below, text_between, is_set, rest_words}
use Rattle.meaning_words.specs.Videos.{code_text}
use Rattle.meaning_fields.specs.Places.{place_text}

-- ---- preferences, the most preferred first: a video code, or a timing by its place

abbrev pub is_reserved : ℕ → Bool
is_reserved v = (v == 0) || ((v == 128) || ((nat_le 161 v && nat_le v 192) || (v == 255)))

abbrev pub reserved_text : ℕ → List ℕ
reserved_text v = text_between [] v (codes ": reserved")

abbrev pub preference_text : ℕ → List ℕ
preference_text v =
    if is_reserved v then reserved_text v
    else if nat_le 129 v && nat_le v 144 then text_between (codes "detailed timing ") (v - 128) []
    else if nat_le 145 v && nat_le v 160 then text_between (codes "further timing ") (v - 144) []
    else if v == 254 then codes "first timing by a code of DMT"
    else text_between [] v (codes ": ") ++ code_text v

abbrev pub preference_meanings : List ℕ → List (List ℕ)
preference_meanings p = map preference_text p

-- ---- the map: a bit for each code of the video blocks, in their order, the lowest first

abbrev pub weights : List ℕ
weights = 1 ∷ 2 ∷ 4 ∷ 8 ∷ 16 ∷ 32 ∷ 64 ∷ 128 ∷ []

abbrev pub also_text : List ℕ → ℕ → List ℕ
also_text svds place = place_text svds place ++ codes ", also in 4:2:0"

abbrev pub place_line : List ℕ → ℕ → Bool → List (List ℕ)
place_line svds place is = if is then also_text svds place ∷ [] else []

-- a line for each bit that is set, from a place on
unfoldable pub set_places : List ℕ → List ℕ → ℕ → ℕ → List (List ℕ)
set_places svds [] place bits = []
set_places svds (w ∷ ws) place bits = place_line svds place (is_set bits w) ++ set_places svds ws (place + 1) bits

unfoldable pub places : List ℕ → ℕ → List ℕ → List (List ℕ)
places svds place [] = []
places svds place (bits ∷ more) = set_places svds weights place bits ++ places svds (place + 8) more

-- the first 128 places; what is left stays in hex
abbrev pub mapped_meanings : List ℕ → List ℕ → List (List ℕ)
mapped_meanings svds p = places svds 0 (take 16 p)

abbrev pub unmapped_meanings : List ℕ → List (List ℕ)
unmapped_meanings p = below (rest_words (drop 16 p))

abbrev pub some_meanings : List ℕ → List ℕ → List (List ℕ)
some_meanings svds p = mapped_meanings svds p ++ unmapped_meanings p

-- of the video codes of the EDID, in their order; no map says that each code is there in 4:2:0 too
abbrev pub map_meanings : List ℕ → List ℕ → List (List ℕ)
map_meanings svds p = if length p == 0 then codes "each video code also in 4:2:0" ∷ [] else some_meanings svds p
