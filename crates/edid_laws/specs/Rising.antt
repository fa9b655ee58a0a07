-- Numbers of which each is greater than the one before it (own).
use Rattle.std.specs.Prelude.{ℕ, ◌&&◌, nat_lt, Bool, true, List, [], ◌∷◌}

abbrev pub rise : List ℕ → Bool
rise [] = true
rise (a ∷ []) = true
rise (a ∷ b ∷ rest) = nat_lt a b && rise (b ∷ rest)
