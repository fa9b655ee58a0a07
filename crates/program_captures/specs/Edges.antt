-- The line of a capture as an edge file (the profile's own text).
use Rattle.std.specs.Prelude.{◌≡◌, ℕ, Bool, if◌then◌else◌, List, [], ◌∷◌, ◌++◌, Option, Ok, codes}
use Rattle.std.specs.Fmt.{decimal}
use Rattle.std.specs.Io.KnownBytes.{Appends}
use Rattle.std.specs.List.{concat, flat_map}
use Rattle.capture_core.specs.Edges.{Captured}
use Rattle.capture_forms.specs.Captures.{capture_in}
use Rattle.capture_forms.specs.declared.form.CaptureForm.{CaptureForm}
use Rattle.capture_monitor.specs.EdgeText.{last_line}
use Rattle.line_wave.specs.declared.Edge.{Edge}
use Rattle.program_captures.specs.Captures.{as_read}

-- a fall or a rise
abbrev pub edge_line : Edge → List ℕ
edge_line e = concat (decimal e.at ∷ (if e.low then codes " 0\n" else codes " 1\n") ∷ [])

-- edges in order, and the end of the capture
abbrev pub edges_text : List Edge → ℕ → List ℕ
edges_text edges end = flat_map edge_line edges ++ last_line end

-- this text is the line of the capture that an input gives, by its form and the name of its wire
abbrev pub AreEdges : CaptureForm → List ℕ → Bool → ℕ → ℕ → List ℕ → List ℕ → Type 0
AreEdges form name inverted factor glitch input text =
    (c : Captured)
    × (capture_in form name input ≡ Ok c)
    × (text ≡ edges_text (as_read inverted factor glitch c).edges (as_read inverted factor glitch c).end)

-- it is written, and nothing else
abbrev pub WritesEdges : CaptureForm → List ℕ → Bool → ℕ → ℕ → List ℕ → Option (List ℕ) → Option (List ℕ) → Type 0
WritesEdges form name inverted factor glitch input old new = (text : List ℕ) × AreEdges form name inverted factor glitch input text × Appends old new text
