-- The lines that report the edges of the CEC line, as an edge file has them (the profile's own text).
use Rattle.std.specs.Prelude.{ℕ, List, [], ◌∷◌, codes}
use Rattle.std.specs.Fmt.{decimal}
use Rattle.std.specs.List.{concat, flat_map}
use Rattle.line_wave.specs.declared.Stretch.{Stretch}

-- the fall with which a stretch begins, and the rise with which it ends, a line each
abbrev pub stretch_lines : Stretch → List ℕ
stretch_lines s = concat (decimal s.from ∷ codes " 0\n" ∷ decimal s.to ∷ codes " 1\n" ∷ [])

abbrev pub edge_lines : List Stretch → List ℕ
edge_lines stretches = flat_map stretch_lines stretches

-- the instant with which the file ends
abbrev pub last_line : ℕ → List ℕ
last_line end = concat (decimal end ∷ codes " end\n" ∷ [])
