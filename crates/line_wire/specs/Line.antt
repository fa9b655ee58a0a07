-- The pulls of a round that have begun: a wave, of which the last is kept. (own)
use Rattle.std.specs.Prelude.{◌≡◌, ℕ, ◌≤◌, List, [], ◌∷◌, Option, Some, None, All}
use Rattle.line_wave.specs.declared.Stretch.{Stretch}

abbrev pub last_of : List Stretch → Option Stretch
last_of [] = None
last_of (p ∷ []) = Some p
last_of (p ∷ q ∷ ps) = last_of (q ∷ ps)

-- these began in the round by microsecond t, and the last of them is kept
pub record HaveBegun (begin : ℕ) (past : List Stretch) (last : Option Stretch) (t : ℕ) : Type 0 where
  pub inside : All (λ p. begin ≤ p.from) past
  pub begun : All (λ p. p.from ≤ t) past
  pub last_is : last ≡ last_of past
