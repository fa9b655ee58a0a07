-- The ten bytes of the chromaticities (E-EDID Release A, section 3.7).
use Rattle.std.specs.Prelude.{ℕ, ◌/◌, List, [], ◌∷◌}
use Rattle.edid_base.specs.Pairs.{low_pairs}
use Rattle.edid_base.specs.declared.chroma.Chroma.{Chroma}

-- the low bits of all numbers, and then the high eight bits of each
abbrev pub chroma_bytes : Chroma → List ℕ
chroma_bytes c =
    low_pairs c.red.x c.red.y c.green.x c.green.y ∷ low_pairs c.blue.x c.blue.y c.white.x c.white.y ∷
    (c.red.x / 4) ∷ (c.red.y / 4) ∷ (c.green.x / 4) ∷ (c.green.y / 4) ∷
    (c.blue.x / 4) ∷ (c.blue.y / 4) ∷ (c.white.x / 4) ∷ (c.white.y / 4) ∷ []

-- red, green, blue and white, each with x and y (own: the order in a text)
abbrev pub chroma_numbers : Chroma → List ℕ
chroma_numbers c = c.red.x ∷ c.red.y ∷ c.green.x ∷ c.green.y ∷ c.blue.x ∷ c.blue.y ∷ c.white.x ∷ c.white.y ∷ []
