-- The file of a line, as it is written, and read back (own).
use Rattle.std.specs.Prelude.{◌≡◌, ℕ, ◌/◌, ◌%◌, ◌≤◌, false, List, [], ◌∷◌, ◌++◌, codes, Ok}
use Rattle.std.specs.Fmt.{decimal}
use Rattle.std.specs.List.{concat, flat_map}
use Rattle.line_wave.specs.declared.Stretch.{Stretch}
use Rattle.line_wave.specs.Bounds.{latest_instant}
use Rattle.line_wave.specs.Line.{line_of, IsWave}
use Rattle.capture_core.specs.Edges.{edges_of}
use Rattle.capture_core.specs.Seconds.{nine_digits}
use Rattle.capture_csv.specs.Csv.{edges_in}

-- the names of the columns, and the line high
abbrev pub head : List ℕ
head = codes "Time [s],CEC\n0.000000000,1\n"

-- an instant in seconds, a comma, and a level
abbrev pub row_line : ℕ → ℕ → List ℕ
row_line t level = decimal (t / 1000000) ++ 46 ∷ (nine_digits (t % 1000000) ++ 44 ∷ level ∷ [])

abbrev pub row_text : ℕ → ℕ → List ℕ
row_text t level = concat (decimal (t / 1000000) ∷ codes "." ∷ nine_digits (t % 1000000) ∷ (44 ∷ level ∷ 10 ∷ []) ∷ [])

-- the fall and the rise of a stretch
abbrev pub rows_text : Stretch → List ℕ → List ℕ → List ℕ
rows_text s fall rise = concat (decimal (s.from / 1000000) ∷ codes "." ∷ fall ∷ codes ",0\n" ∷ decimal (s.to / 1000000) ∷ codes "." ∷ rise ∷ codes ",1\n" ∷ [])

abbrev pub stretch_text : Stretch → List ℕ
stretch_text s = rows_text s (nine_digits (s.from % 1000000)) (nine_digits (s.to % 1000000))

abbrev pub changes : List Stretch → List ℕ
changes ss = flat_map stretch_text ss

-- last the level is reported again
abbrev pub csv_text : List Stretch → ℕ → List ℕ
csv_text ss end = head ++ (changes ss ++ row_text end 49)

-- The file of a line that is high from the end on is read as the line's edges, within the limit of a capture.
abbrev pub CsvFilesAreReadBack : Type 0
CsvFilesAreReadBack = (ss : List Stretch) (end : ℕ) → IsWave ss → ((u : ℕ) → end ≤ u → line_of ss u ≡ false) → end ≤ latest_instant
    → edges_in [] (csv_text ss end) ≡ Ok (record { edges = edges_of ss; end = end })
