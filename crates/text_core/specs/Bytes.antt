-- Bytes: numbers of eight bits (own).
use Rattle.std.specs.Prelude.{ℕ, Bool, nat_lt, List}
use Rattle.std.specs.List.{list_all}

abbrev pub are_bytes : List ℕ → Bool
are_bytes xs = list_all (λ b. nat_lt b 256) xs
