-- Stretches in order, and where the last of them that begins by an instant ends. (own)
use Rattle.std.specs.Prelude.{◌≡◌, ℕ, ◌<◌, ◌≤◌, true, nat_le, if◌then◌else◌, List}
use Rattle.std.specs.List.{fold}
use Rattle.line_wave.specs.declared.Stretch.{Stretch}
use Rattle.line_wave.specs.Line.{IsWaveFrom, line_of}
use Rattle.line_rounds.specs.Elements.{In}

-- each is a microsecond wide at least, and none begins before the first may
abbrev pub WavesAreWide : Type 0
WavesAreWide = (from : ℕ) (ps : List Stretch) (p : Stretch) → IsWaveFrom from ps → In p ps → (from ≤ p.from) × (p.from < p.to)

-- a later stretch ends later
abbrev pub RestRises : Type 0
RestRises = (until r from : ℕ) (ss : List Stretch) → IsWaveFrom from ss → r ≤ from → r ≤ fold (λ rest s. if nat_le s.from until then s.to else rest) r ss

-- where the line is low by `until`, it rests after that
abbrev pub RestPast : Type 0
RestPast = (until t r from : ℕ) (ss : List Stretch) → IsWaveFrom from ss → t ≤ until → line_of ss t ≡ true
    → t < fold (λ rest s. if nat_le s.from until then s.to else rest) r ss
