-- Two bytes of a standard timing (E-EDID Release A, section 3.9): an eighth of the width less 31, two bits of the aspect ratio, and the rate in Hz less 60. 01 01 is unused.
use Rattle.std.specs.Prelude.{ℕ, ◌+◌, ◌-◌, ◌*◌, ◌/◌, Option, Some, None, List, [], ◌∷◌}
use Rattle.edid_base.specs.declared.standard.StandardTiming.{StandardTiming}

abbrev pub standard_bytes : Option StandardTiming → List ℕ
standard_bytes None = 1 ∷ 1 ∷ []
standard_bytes (Some s) = (s.width / 8 - 31) ∷ (s.aspect * 64 + (s.rate - 60)) ∷ []

-- the width, the two bits of the aspect ratio, and the rate (own: the order in a text)
abbrev pub standard_numbers : StandardTiming → List ℕ
standard_numbers s = s.width ∷ s.aspect ∷ s.rate ∷ []
