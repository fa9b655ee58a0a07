-- Bytes that a text lacks (own).
use Rattle.std.specs.Prelude.{◌≡◌, ℕ, Bool, false, List, All}

-- no byte of a text is one of these
abbrev pub Lacks : (ℕ → Bool) → List ℕ → Type 0
Lacks p bytes = All (λ c. p c ≡ false) bytes
