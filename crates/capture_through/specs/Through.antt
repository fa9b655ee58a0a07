-- Edges of a line that pass one by one: turned or not, and without those that are too close. At each moment what has come out and
-- what is still to come out of the edges that are left are, together, what is made of the whole (own).
use Rattle.std.specs.Prelude.{◌≡◌, ℕ, ◌+◌, ◌≤◌, Bool, true, false, if◌then◌else◌, List, [], ◌∷◌, ◌++◌, map, Option, IfSome}
use Rattle.std.specs.Option.{option_to_list}
use Rattle.line_wave.specs.declared.Edge.{Edge}
use Rattle.capture_core.specs.Edges.{IsCapture}
use Rattle.line_wave.specs.Bounds.{latest_instant}
use Rattle.capture_smooth.specs.Smooth.{smooth_edges}
use Rattle.capture_invert.specs.Inverted.{inverted_edges, turned}
use Rattle.capture_through.specs.declared.smoother.Smoother.{Smoother}
use Rattle.capture_through.specs.declared.turner.Turner.{Turner}
use Rattle.capture_through.specs.declared.through.Through.{Through}
use Rattle.capture_through.specs.declared.passed.Passed.{Passed}

-- what is made of a whole line
abbrev pub edges_turned : Bool → List Edge → List Edge
edges_turned false es = es
edges_turned true es = inverted_edges es

abbrev pub made_of : Bool → ℕ → List Edge → List Edge
made_of inverted shortest es = smooth_edges shortest (edges_turned inverted es)

-- what comes out of edges that are left
abbrev pub smoothed : Smoother → List Edge → List Edge
smoothed s es = smooth_edges s.shortest (option_to_list s.held ++ es)

abbrev pub left_turned : Bool → List Edge → List Edge
left_turned true es = map turned es
left_turned false es = inverted_edges es

abbrev pub turned_by : Turner → List Edge → List Edge
turned_by t es = if t.turns then left_turned t.begun es else es

abbrev pub left_of : Through → List Edge → List Edge
left_of t es = smoothed t.smoother (turned_by t.turner es)

-- what came out
abbrev pub passed_edges : Passed → List Edge
passed_edges p = option_to_list p.first ++ option_to_list p.second

-- no edge of these comes before an instant
abbrev pub AreFrom : ℕ → List Edge → Type 0
AreFrom from [] = Unit {0}
AreFrom from (e ∷ es) = (from ≤ e.at) × AreFrom from es

-- By an edge these came out, whatever comes later.
abbrev pub Passes : Through → Edge → Passed → Through → Type 0
Passes old edge passed new = (rest : List Edge) → left_of old (edge ∷ rest) ≡ passed_edges passed ++ left_of new rest

-- The same by an edge, if there is one.
abbrev pub PassesMaybe : Through → Option Edge → Passed → Through → Type 0
PassesMaybe old edge passed new = (rest : List Edge) → left_of old (option_to_list edge ++ rest) ≡ passed_edges passed ++ left_of new rest

-- The same where none comes before an instant.
abbrev pub PassesCalm : Through → ℕ → Passed → Through → Type 0
PassesCalm old from passed new = (rest : List Edge) → AreFrom from rest → left_of old rest ≡ passed_edges passed ++ left_of new rest

-- It was told that none comes before an instant.
pub record IsCalm (from : ℕ) (t : Through) : Type 0 where
  pub turner : (rest : List Edge) → AreFrom from rest → AreFrom from (turned_by t.turner rest)
  pub smoother : IfSome t.smoother.held (λ e. from ≤ e.at + t.smoother.shortest)

-- Then what is to come out is known up to the shortest pulse before it.
pub record IsKnown (t : Through) (from known : ℕ) : Type 0 where
  pub sooner : known ≤ from
  pub lag : from ≤ known + t.smoother.shortest
  pub none : (rest : List Edge) → AreFrom from rest → AreFrom known (left_of t rest)

-- ---- within the limit of a capture

abbrev pub IsEarly : Option Edge → Type 0
IsEarly edge = IfSome edge (λ e. e.at ≤ latest_instant)

abbrev pub HoldsEarly : Through → Type 0
HoldsEarly t = IsEarly t.smoother.held

abbrev pub PassedEarly : Passed → Type 0
PassedEarly p = IsEarly p.first × IsEarly p.second

-- what is made of a capture is one
abbrev pub CapturesStay : Type 0
CapturesStay = (inverted : Bool) (shortest : ℕ) (es : List Edge) (end : ℕ) → IsCapture es end → IsCapture (made_of inverted shortest es) end
