-- The next edge of a round, which a wire finds by the next pulse alone (own).
use Rattle.std.specs.Prelude.{◌≡◌, ℕ, ◌+◌, ◌<◌, Bool, List, [], ◌++◌, Option, Some, None, IfSome}
use Rattle.std.specs.Option.{option_to_list}
use Rattle.line_wave.specs.declared.Stretch.{Stretch}
use Rattle.line_wave.specs.declared.Edge.{Edge}
use Rattle.line_wave.specs.Pulses.{AreSparse}
use Rattle.line_rounds.specs.Edges.{IsNextEdge}
use Rattle.line_rounds.specs.Round.{IsRoundLine}
use Rattle.line_wire.specs.declared.edge_wire.EdgeWire.{EdgeWire}
use Rattle.line_wire.specs.Wired.{Found, IsBegunWith, IsNext}

-- These pulses have begun, `next` is the next one, and the wire finds this edge by it: what `next_edge` asks for and says.
pub record IsFoundNext (past : List Stretch) (next : Option Stretch) (old new : EdgeWire) (edge : Option Edge) : Type 0 where
  pub begun : IsBegunWith past old
  pub is_next : IsNext past old.time next
  pub found : Found past (option_to_list next) old new edge

-- no pulse follows where there is no next one
abbrev pub FollowNext : Option Stretch → List Stretch → Type 0
FollowNext None later = later ≡ []
FollowNext (Some p) later = Unit {0}

-- Of each line that the round can have, whatever sparse pulses follow the next one, it is the next edge.
abbrev pub EdgesStay : Type 0
EdgesStay = (past : List Stretch) (next : Option Stretch) (old new : EdgeWire) (edge : Option Edge) → IsFoundNext past next old new edge
    → (later : List Stretch) (low : ℕ → Bool) → AreSparse (past ++ (option_to_list next ++ later)) → FollowNext next later
    → IsRoundLine old.seats.items old.begin (past ++ (option_to_list next ++ later)) low → IsNextEdge low old.time edge

-- It comes less than 23,000 microseconds after the instant before which the wire had heard.
abbrev pub EdgesComeSoon : Type 0
EdgesComeSoon = (past : List Stretch) (next : Option Stretch) (old new : EdgeWire) (edge : Option Edge) → IsFoundNext past next old new edge
    → AreSparse (past ++ option_to_list next) → IfSome edge (λ e. e.at < old.time + 23000)
