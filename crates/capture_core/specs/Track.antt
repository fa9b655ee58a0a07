-- Where a reader of a capture stands on the line: the instant that it has come to, the level before that instant and the
-- level at it, as it is told so far (own).
use Rattle.std.specs.Prelude.{◌≡◌, ℕ, ◌<◌, ◌≤◌, ◌&&◌, not, Bool, true, false, nat_lt, if◌then◌else◌, Option, Some, None, Result, Ok, Err}
use Rattle.line_wave.specs.declared.Edge.{Edge}
use Rattle.capture_core.specs.declared.track.Track.{Track}
use Rattle.capture_core.specs.declared.track.GoesBack.{GoesBack}

-- before anything is reported the line is high
abbrev pub first_track : Track
first_track = record { at = 0; was_low = false; is_low = false }

abbrev pub with_level : Bool → Track → Track
with_level low t = record t { is_low = low }

abbrev pub differ : Bool → Bool → Bool
differ true b = not b
differ false b = b

pub record Moved : Type 0 where
  pub track : Track
  pub edge : Option Edge

-- A later instant is come to; none goes back. A microsecond has the level that is reported last of it: where the line changed,
-- its edge is known once the microsecond is over. A level that is reported again is no edge.
abbrev pub track_move : ℕ → Track → Option Moved
track_move u t =
    if nat_lt u t.at then None
    else if nat_lt t.at u && differ t.was_low t.is_low then Some (record { track = record t { at = u; was_low = t.is_low }; edge = Some (record { at = t.at; low = t.is_low }) })
    else Some (record { track = record t { at = u }; edge = None })

-- the edge of the last microsecond
abbrev pub last_edge : Track → Option Edge
last_edge t = if differ t.was_low t.is_low then Some (record { at = t.at; low = t.is_low }) else None

-- a refusal changes nothing
abbrev pub Moves : ℕ → Track → Result (Option Edge) GoesBack → Track → Type 0
Moves u old (Ok edge) new = track_move u old ≡ Some (record { track = new; edge = edge })
Moves u old (Err back) new = (track_move u old ≡ None) × (new ≡ old)

-- the track with these parts
abbrev pub track_at : ℕ → Bool → Bool → Track
track_at at was_low is_low = record { at = at; was_low = was_low; is_low = is_low }

-- the edge that is due where the line rises
abbrev pub due : ℕ → Bool → Option Edge
due at true = Some (record { at = at; low = false })
due at false = None

-- a track that comes to an instant stands there
abbrev pub MovesComeThere : Type 0
MovesComeThere = (u : ℕ) (t : Track) (m : Moved) → track_move u t ≡ Some m → m.track.at ≡ u

-- the line turned at the instant before
abbrev pub TurnsAreReported : Type 0
TurnsAreReported = (t at : ℕ) (b : Bool) → at < t
    → track_move t (track_at at (not b) b) ≡ Some (record { track = track_at t b b; edge = Some (record { at = at; low = b }) })

-- it did not turn
abbrev pub QuietMoves : Type 0
QuietMoves = (t at : ℕ) (b : Bool) → at ≤ t
    → track_move t (track_at at b b) ≡ Some (record { track = track_at t b b; edge = None })

-- the same instant
abbrev pub MovesInPlace : Type 0
MovesInPlace = (t : ℕ) (was is : Bool)
    → track_move t (track_at t was is) ≡ Some (record { track = track_at t was is; edge = None })
