-- What each base block begins with (E-EDID Release A, section 3.3).
use Rattle.std.specs.Prelude.{ℕ, ◌==◌, Bool, List, [], ◌∷◌}
use Rattle.std.specs.List.{starts_with}

abbrev pub header : List ℕ
header = 0 ∷ 0xff ∷ 0xff ∷ 0xff ∷ 0xff ∷ 0xff ∷ 0xff ∷ 0 ∷ []

abbrev pub has_header : List ℕ → Bool
has_header bytes = starts_with (λ x y. x == y) bytes header
