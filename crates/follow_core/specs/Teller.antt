-- A monitor that is told a captured line, edge by edge and up to where no edge comes: the readings that have ended (own).
use Rattle.std.specs.Prelude.{◌≡◌, ℕ, ◌+◌, ◌≤◌, Bool, false, List, [], ◌++◌, Option}
use Rattle.std.specs.Option.{option_map, option_to_list}
use Rattle.line_wave.specs.declared.Edge.{Edge}
use Rattle.line_wave.specs.Line.{Line, was_low}
use Rattle.line_wave.specs.Bounds.{latest_instant}
use Rattle.line_reading.specs.declared.times.Windows.{Windows}
use Rattle.line_reading.specs.Readings.{Listed}
use Rattle.capture_core.specs.Edges.{AreInTurn, EndBy, level_at, line_of_edges}
use Rattle.capture_monitor.specs.Monitor.{HeardBeforeBy}
use Rattle.capture_monitor.specs.ReadBy.{ended_before_by, readings_by}
use Rattle.line_reading.specs.Reports.{listed_as}
use Rattle.capture_join.specs.Joined.{IsJoined, IsSought, Stays}
use Rattle.capture_through.specs.Through.{passed_edges}
use Rattle.capture_through.specs.declared.passed.Passed.{Passed}
use Rattle.follow_core.specs.declared.teller.PassedReadings.{PassedReadings}
use Rattle.follow_core.specs.declared.teller.Teller.{Teller}

-- Before microsecond `known` it was told a line, of which these edges are still to come, up to an end; these readings have ended.
pub record IsTold (windows : Windows) (t : Teller) (low : Line) (edges : List Edge) (end : ℕ) (ended : List Listed) : Type 0 where
  pub is_low : Bool
  pub level : (u : ℕ) → t.known ≤ u → low u ≡ level_at is_low edges u
  pub before : was_low low t.known ≡ is_low
  pub turn : AreInTurn is_low t.known edges
  pub ends : EndBy end edges
  pub reach : t.known ≤ end + 1
  pub heard : HeardBeforeBy windows t.monitor low t.known
  pub listed : ended ≡ ended_before_by windows low t.known
  pub sought : IsSought t.search low t.known

-- they are the first of those of the line
abbrev pub ToldComeFirst : Type 0
ToldComeFirst = (windows : Windows) (t : Teller) (low : Line) (edges : List Edge) (end : ℕ) (ended : List Listed) → IsTold windows t low edges end ended
    → (more : List Listed) × (readings_by windows low end ≡ ended ++ more)

-- it was told nothing: all edges of a capture are still to come
abbrev pub IsUntold : Windows → Teller → Type 0
IsUntold windows t = (edges : List Edge) (end : ℕ) → AreInTurn false 0 edges → EndBy end edges → IsTold windows t (line_of_edges edges) edges end []

-- within the limit of a capture
abbrev pub IsToldEarly : Teller → Type 0
IsToldEarly t = t.known ≤ latest_instant + 1

-- an edge is told, if there is one
pub record TellsEdge (old : Teller) (edge : Option Edge) (reported : Option Listed) (new : Teller) : Type 0 where
  pub stays : Stays old.search.found new.search.found
  pub early : IsToldEarly new
  pub told : (windows : Windows) (low : Line) (edges : List Edge) (end : ℕ) (ended : List Listed) → IsTold windows old low (option_to_list edge ++ edges) end ended
      → IsTold windows new low edges end (ended ++ option_to_list reported)

-- what it has reported of edges that come one after the other
abbrev pub listed_pair : PassedReadings → List Listed
listed_pair p = option_to_list (option_map listed_as p.first) ++ option_to_list (option_map listed_as p.second)

-- edges are told
pub record TellsPassed (old : Teller) (passed : Passed) (reported : PassedReadings) (new : Teller) : Type 0 where
  pub stays : Stays old.search.found new.search.found
  pub early : IsToldEarly new
  pub told : (windows : Windows) (low : Line) (edges : List Edge) (end : ℕ) (ended : List Listed) → IsTold windows old low (passed_edges passed ++ edges) end ended
      → IsTold windows new low edges end (ended ++ listed_pair reported)

-- no edge of these comes before an instant
abbrev pub NoneBefore : ℕ → List Edge → Type 0
NoneBefore from edges = (is_low : Bool) × AreInTurn is_low from edges

-- it is told that none comes before an instant
pub record TellsCalm (old : Teller) (from : ℕ) (reported : Option Listed) (new : Teller) : Type 0 where
  pub stays : Stays old.search.found new.search.found
  pub early : IsToldEarly new
  pub prompt : from ≤ new.known
  pub told : (windows : Windows) (low : Line) (edges : List Edge) (end : ℕ) (ended : List Listed) → IsTold windows old low edges end ended → NoneBefore from edges → from ≤ end + 1
      → IsTold windows new low edges end (ended ++ option_to_list reported)

-- it is told the end
abbrev pub TellsEnd : Teller → ℕ → Option Listed → Type 0
TellsEnd old end reported = (windows : Windows) (low : Line) (ended : List Listed) → IsTold windows old low [] end ended → readings_by windows low end ≡ ended ++ option_to_list reported

-- the first idle instant of the line, or the end
abbrev pub TellsIdle : Teller → ℕ → ℕ → Type 0
TellsIdle t end idle = (windows : Windows) (low : Line) (ended : List Listed) → IsTold windows t low [] end ended → IsJoined low end idle
