-- The text of a run's line in each format (own).
use Rattle.std.specs.Prelude.{ℕ, List, [], ◌++◌}
use Rattle.std.specs.List.{flat_map}
use Rattle.line_wave.specs.declared.Stretch.{Stretch}
use Rattle.capture_monitor.specs.EdgeText.{edge_lines, last_line}
use Rattle.capture_vcd.specs.Text as vcd
use Rattle.capture_pin.specs.Text as pin
use Rattle.capture_csv.specs.Text as csv
use Rattle.capture_forms.specs.declared.form.CaptureForm.{CaptureForm}
use Rattle.capture_forms.specs.declared.form.CaptureForm.TheVariants.{Edges, Vcd, Pin, Csv}

-- what stands before the first round: nothing in an edge file, else the head, which ends with the line high at 0
abbrev pub line_start : CaptureForm → List ℕ
line_start Edges = []
line_start Vcd = vcd.head
line_start Pin = pin.head
line_start Csv = csv.head

-- of a round, by its low stretches: its falls and rises; of a pin file the level before them once more
abbrev pub line_round : CaptureForm → List Stretch → List ℕ
line_round Edges stretches = edge_lines stretches
line_round Vcd stretches = vcd.changes stretches
line_round Pin stretches = pin.round_text stretches
line_round Csv stretches = csv.changes stretches

-- the end; pin events and comma-separated values have it as the level once more
abbrev pub line_end : CaptureForm → ℕ → List ℕ
line_end Edges end = last_line end
line_end Vcd end = vcd.last end
line_end Pin end = pin.event_text end 49
line_end Csv end = csv.row_text end 49

-- the line that rounds make, and its end
abbrev pub line_text : CaptureForm → List (List Stretch) → ℕ → List ℕ
line_text format rounds end = line_start format ++ (flat_map (line_round format) rounds ++ line_end format end)
