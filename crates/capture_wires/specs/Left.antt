-- The pulses that are left at an instant. (own)
use Rattle.std.specs.Prelude.{ℕ, ◌≤◌, List, [], ◌∷◌}
use Rattle.line_wave.specs.declared.Stretch.{Stretch}

-- the first of them is not over before t
abbrev pub FirstNotOver : ℕ → List Stretch → Type 0
FirstNotOver t [] = Unit {0}
FirstNotOver t (s ∷ ss) = t ≤ s.to
