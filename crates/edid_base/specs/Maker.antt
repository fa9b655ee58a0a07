-- The two bytes of a maker (E-EDID Release A, section 3.4.1): three letters of five bits each, big endian, the top bit 0.
use Rattle.std.specs.Prelude.{ℕ, ◌+◌, ◌-◌, ◌*◌, List, [], ◌∷◌}
use Rattle.std.specs.Int.{w16, to_be_bytes}
use Rattle.edid_base.specs.declared.maker.Maker.{Maker}

-- A is 1, and the first letter is the highest
abbrev pub maker_bytes : Maker → List ℕ
maker_bytes m = to_be_bytes w16 ((m.first - 64) * 1024 + (m.second - 64) * 32 + (m.third - 64))

abbrev pub maker_letters : Maker → List ℕ
maker_letters m = m.first ∷ m.second ∷ m.third ∷ []
