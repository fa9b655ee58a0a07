-- What is read of an input (own).
use Rattle.std.specs.Prelude.{◌≡◌, ℕ, List, Option, IfSome}

-- what was read is all that there was, where that is known
abbrev pub IsAllOf : Option (List ℕ) → List ℕ → Type 0
IsAllOf known bytes = IfSome known (λ all. bytes ≡ all)
