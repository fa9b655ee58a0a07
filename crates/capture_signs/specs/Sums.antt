-- Sums and counts over lists (own). They stay at the greatest value that they have.
use Rattle.std.specs.Prelude.{ℕ, Bool, if◌then◌else◌, List, [], ◌∷◌, Option, Some, None}
use Rattle.audit_widths.specs.Spreads.{sum_of}

abbrev pub one_if : Bool → ℕ
one_if holds = if holds then 1 else 0

-- of each item so much
abbrev pub sum_all : {X : Type 0} → (X → ℕ) → List X → ℕ
sum_all f [] = 0
sum_all f (x ∷ xs) = sum_of (f x) (sum_all f xs)

-- a value that such a sum may have
abbrev pub most_sum : ℕ
most_sum = 18446744073709551615

-- one more, if there is one
abbrev pub with_some : {X : Type 0} → (X → ℕ) → ℕ → Option X → ℕ
with_some f sum None = sum
with_some f sum (Some x) = sum_of (f x) sum
