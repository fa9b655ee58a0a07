-- The edges that a track makes of what it is told: they are those of a capture, and tell the line as it was sampled (own).
use Rattle.std.specs.Prelude.{◌≡◌, ℕ, ◌<◌, ◌≤◌, Bool, false, List, [], ◌∷◌, ◌++◌, Some}
use Rattle.std.specs.Option.{option_to_list}
use Rattle.line_wave.specs.declared.Edge.{Edge}
use Rattle.line_wave.specs.Bounds.{latest_instant}
use Rattle.capture_core.specs.Edges.{AreInTurn, EndBy, IsCapture, level_at, line_of_edges}
use Rattle.capture_core.specs.Samples.{Sample, level_in}
use Rattle.capture_core.specs.Track.{Moved, first_track, last_edge, track_move, with_level}
use Rattle.capture_core.specs.declared.track.Track.{Track}

-- what is reported from a track on, and the edges that are made of it, up to the last instant
pub record Records (t : Track) (edges : List Edge) (samples : List Sample) (end : ℕ) : Type 0 where
  pub level : (u : ℕ) → t.at ≤ u → level_at t.was_low edges u ≡ level_in t.is_low samples u
  pub quiet : (b : Bool) (u : ℕ) → u < t.at → level_in b samples u ≡ b
  pub turn : AreInTurn t.was_low t.at edges
  pub ends : EndBy end edges
  pub late : t.at ≤ end

-- where nothing more is reported, the edge of the last microsecond is all
abbrev pub EndsAreRecorded : Type 0
EndsAreRecorded = (t : Track) → Records t (option_to_list (last_edge t)) [] t.at

-- a level is a sample at the track's instant
abbrev pub LevelsAreRecorded : Type 0
LevelsAreRecorded = (t : Track) (low : Bool) (edges : List Edge) (samples : List Sample) (end : ℕ)
    → Records (with_level low t) edges samples end
    → Records t edges (record { at = t.at; low = low } ∷ samples) end

-- an instant that is come to adds the edge that is known by it
abbrev pub MovesAreRecorded : Type 0
MovesAreRecorded = (u : ℕ) (t : Track) (m : Moved) (edges : List Edge) (samples : List Sample) (end : ℕ) → track_move u t ≡ Some m
    → Records m.track edges samples end
    → Records t (option_to_list m.edge ++ edges) samples end

-- from the begin on the edges are those of a capture
abbrev pub RecordsAreCaptures : Type 0
RecordsAreCaptures = (edges : List Edge) (samples : List Sample) (end : ℕ) → end ≤ latest_instant
    → Records first_track edges samples end → IsCapture edges end

-- and their line has the levels of the samples
abbrev pub RecordsAreTheLine : Type 0
RecordsAreTheLine = (edges : List Edge) (samples : List Sample) (end : ℕ) → Records first_track edges samples end → (u : ℕ)
    → line_of_edges edges u ≡ level_in false samples u
