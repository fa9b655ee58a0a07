-- What is judged of a capture (own): an event for each instant with a name, and a round for each reading, shown in a form.
use Rattle.std.specs.Prelude.{ℕ, ◌+◌, map, List, [], ◌∷◌, ◌++◌, Option, Some, None}
use Rattle.text_core.specs.Lines.{lines_of}
use Rattle.line_reading.specs.Readings.{Listed}
use Rattle.record_core.specs.declared.cell.Form.{Form}
use Rattle.capture_core.specs.Edges.{Captured}
use Rattle.capture_monitor.specs.Watch.{as_file, file_readings, reading_as}
use Rattle.expect_judge.specs.Told.{EventLine, RoundLine, Told}
use Rattle.expect_told.specs.Said.{reading_told}
use Rattle.audit_expect.specs.Lines.{instant_of}

abbrev pub mark_of : ℕ → Option ℕ → List EventLine
mark_of number None = []
mark_of number (Some at) = record { at = at; line = number; refused = None } ∷ []

-- those of these lines, of which the first has this number
abbrev pub marks_from : ℕ → List (List ℕ) → List EventLine
marks_from number [] = []
marks_from number (line ∷ lines) = mark_of number (instant_of line) ++ marks_from (number + 1) lines

abbrev pub marks : List ℕ → List EventLine
marks text = marks_from 1 (lines_of text)

abbrev pub listed_told : Form → Listed → RoundLine
listed_told form x = reading_told form (reading_as x)

abbrev pub rounds_told : Form → Captured → List RoundLine
rounds_told form capture = map (listed_told form) (file_readings (as_file capture))

abbrev pub capture_told : Form → List ℕ → Captured → Told
capture_told form text capture = record { rounds = rounds_told form capture; events = marks text }

-- no line speaks of a state
abbrev pub no_states : List ℕ → List (List ℕ)
no_states text = map (λ line. []) (lines_of text)
