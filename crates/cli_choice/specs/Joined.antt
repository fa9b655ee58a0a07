-- A flag and its value in one word, as `--port=1` (own).
use Rattle.std.specs.Prelude.{ℕ, ◌==◌, nat_lt, List, length, Option, Some, None, if◌then◌else◌}
use Rattle.std.specs.List.{after_first, before_first, position_or_len}

-- what stands before the first `=` (61) of a word, and what stands after it, where it has one
abbrev pub joined : List ℕ → Option (List ℕ × List ℕ)
joined word =
    if nat_lt (position_or_len (λ b. b == 61) word) (length word) then Some (before_first (λ b. b == 61) word, after_first (λ b. b == 61) word)
    else None
