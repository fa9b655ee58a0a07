-- The dump of a line, as it is written, and read back (own).
use Rattle.std.specs.Prelude.{◌≡◌, ℕ, ◌≤◌, false, List, [], ◌∷◌, ◌++◌, codes, Ok}
use Rattle.std.specs.Fmt.{decimal}
use Rattle.std.specs.List.{concat, flat_map}
use Rattle.line_wave.specs.declared.Stretch.{Stretch}
use Rattle.line_wave.specs.Bounds.{latest_instant}
use Rattle.line_wave.specs.Line.{line_of, IsWave}
use Rattle.capture_core.specs.Edges.{edges_of}
use Rattle.capture_vcd.specs.Dump.{edges_in}

-- the definitions: a tick is a microsecond, and the wire is high at first
abbrev pub head : List ℕ
head = codes "$version hdminet $end\n$timescale 1 us $end\n$scope module hdmi $end\n$var wire 1 ! CEC $end\n$upscope $end\n$enddefinitions $end\n#0\n$dumpvars\n1!\n$end\n"

-- a line with a time
abbrev pub time_line : ℕ → List ℕ
time_line t = 35 ∷ decimal t

-- the fall and the rise of a stretch, each in two lines: readers that go by lines want the time alone (vcd2fst)
abbrev pub change_lines : Stretch → List ℕ
change_lines s = concat (codes "#" ∷ decimal s.from ∷ codes "\n0!\n#" ∷ decimal s.to ∷ codes "\n1!\n" ∷ [])

abbrev pub changes : List Stretch → List ℕ
changes stretches = flat_map change_lines stretches

abbrev pub last : ℕ → List ℕ
last end = concat (codes "#" ∷ decimal end ∷ codes "\n" ∷ [])

abbrev pub dump : List Stretch → ℕ → List ℕ
dump stretches end = head ++ (changes stretches ++ last end)

-- The dump of a line that is high from the end on is read as the line's edges, within the limit of a capture.
abbrev pub DumpsAreReadBack : Type 0
DumpsAreReadBack = (ss : List Stretch) (end : ℕ) → IsWave ss → ((u : ℕ) → end ≤ u → line_of ss u ≡ false) → end ≤ latest_instant
    → edges_in [] (dump ss end) ≡ Ok (record { edges = edges_of ss; end = end })
