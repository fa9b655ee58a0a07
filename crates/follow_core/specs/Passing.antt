-- A capture that is read line by line, its levels turned or not and without pulses and gaps that are too short: what comes of the lines
-- that are left (own).
use Rattle.std.specs.Prelude.{◌≡◌, ℕ, ◌+◌, ◌≤◌, Bool, List, ◌∷◌, [], ◌++◌, Result, Ok, Err}
use Rattle.line_wave.specs.declared.Edge.{Edge}
use Rattle.text_core.specs.declared.at.At.{At}
use Rattle.capture_core.specs.Edges.{Captured}
use Rattle.capture_core.specs.Reading.{with_edges}
use Rattle.capture_core.specs.declared.fault.Cause.{Cause}
use Rattle.capture_through.specs.Through.{AreFrom, HoldsEarly, IsCalm, PassedEarly, left_of, made_of, passed_edges}
use Rattle.capture_through.specs.declared.through.Through.{Through}
use Rattle.follow_core.specs.Lines.{IsEarly, from_of, lines_captured, lines_left}
use Rattle.follow_core.specs.declared.lines.LineForm.{LineForm}
use Rattle.follow_core.specs.declared.passing.LastEdges.{LastEdges}
use Rattle.follow_core.specs.declared.passing.PassedEdges.{PassedEdges}
use Rattle.follow_core.specs.declared.passing.PassingLines.{PassingLines}

-- what is made of a capture that is read
abbrev pub made_read : Bool → ℕ → Result Captured (At Cause) → Result Captured (At Cause)
made_read inverted glitch (Ok c) = Ok (record { edges = made_of inverted glitch c.edges; end = c.end })
made_read inverted glitch (Err fault) = Err fault

abbrev pub passing_captured : Bool → ℕ → LineForm → List ℕ → List (List ℕ) → Result Captured (At Cause)
passing_captured inverted glitch form signal lines = made_read inverted glitch (lines_captured form signal lines)

-- what comes of what is left of it
abbrev pub through_read : Through → Result Captured (At Cause) → Result Captured (At Cause)
through_read t (Ok c) = Ok (record { edges = left_of t c.edges; end = c.end })
through_read t (Err fault) = Err fault

abbrev pub passing_left : List ℕ → PassingLines → ℕ → List (List ℕ) → Result Captured (At Cause)
passing_left signal p number lines = through_read p.through (lines_left signal p.lines number lines)

-- ---- what is returned

abbrev pub edges_in : PassedEdges → List Edge
edges_in p = passed_edges p.by_edge ++ passed_edges p.by_calm

-- within the limit of a capture
abbrev pub ArePassedEarly : PassedEdges → Type 0
ArePassedEarly p = PassedEarly p.by_edge × PassedEarly p.by_calm

-- it was told up to where the lines say that no edge comes
pub record IsPassing (p : PassingLines) : Type 0 where
  pub lines : IsEarly p.lines
  pub held : HoldsEarly p.through
  pub calm : IsCalm (from_of p.lines) p.through

-- a line is taken: the edges that come of it come before what is left, or it is at fault
abbrev pub TakesPassing : List ℕ → PassingLines → ℕ → List ℕ → Result PassedEdges (At Cause) → PassingLines → Type 0
TakesPassing signal old number line (Ok passed) new =
    (rest : List (List ℕ)) → passing_left signal old number (line ∷ rest) ≡ with_edges (edges_in passed) (passing_left signal new (number + 1) rest)
TakesPassing signal old number line (Err fault) new = (rest : List (List ℕ)) → passing_left signal old number (line ∷ rest) ≡ Err fault

-- no line is left: the last edges and the end are known, whatever the name
abbrev pub EndsPassing : PassingLines → ℕ → Result LastEdges (At Cause) → Type 0
EndsPassing p number (Ok last) = passing_left [] p number [] ≡ Ok (record { edges = edges_in last.edges; end = last.end })
EndsPassing p number (Err fault) = passing_left [] p number [] ≡ Err fault

-- no edge of what is left comes before an instant, which is not further back than the shortest pulse
pub record IsKnownTo (signal : List ℕ) (p : PassingLines) (number known : ℕ) : Type 0 where
  pub lag : from_of p.lines ≤ known + p.through.smoother.shortest
  pub none : (rest : List (List ℕ)) (c : Captured) → passing_left signal p number rest ≡ Ok c → AreFrom known c.edges × (known ≤ c.end + 1)
