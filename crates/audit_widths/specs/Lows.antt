-- The low stretches of a captured line, edge by edge (own: an edge is a fall or a rise in a whole microsecond).
use Rattle.std.specs.Prelude.{ℕ, nat_lt, if◌then◌else◌, List, [], ◌∷◌, take, Option, Some, None}
use Rattle.line_wave.specs.declared.Edge.{Edge}
use Rattle.audit_widths.specs.declared.low.Low.{Low}
use Rattle.audit_widths.specs.declared.cursor.Cursor.{Cursor}
use Rattle.line_wave.specs.Bounds.{most_sent}

-- ---- a place among edges

-- the edges that are left
abbrev pub place_of : Cursor → List Edge
place_of c = c.edges.now

-- the edges before an instant are passed over
abbrev pub gone_to : ℕ → List Edge → List Edge
gone_to begin [] = []
gone_to begin (e ∷ es) = if nat_lt e.at begin then gone_to begin es else e ∷ es

-- ---- low stretches

-- the low stretch of a fall, before these edges: its rise and the next fall, where the capture has them
abbrev pub low_at : ℕ → List Edge → Low
low_at fall [] = record { fall = fall; rise = None; next = None }
low_at fall (r ∷ []) = record { fall = fall; rise = Some r.at; next = None }
low_at fall (r ∷ f ∷ es) = record { fall = fall; rise = Some r.at; next = Some f.at }

-- the low stretches that fall before an instant, from a fall on
abbrev pub lows_in : ℕ → List Edge → List Low
lows_in until [] = []
lows_in until (f ∷ []) = if nat_lt f.at until then low_at f.at [] ∷ [] else []
lows_in until (f ∷ r ∷ es) = if nat_lt f.at until then low_at f.at (r ∷ es) ∷ lows_in until es else []

-- the first of them
abbrev pub first_low : List Edge → Option Low
first_low [] = None
first_low (f ∷ es) = Some (low_at f.at es)

-- of a reading: the start bit and 160 slots at most (CEC 6)
abbrev pub lows_before : ℕ → List Edge → List Low
lows_before until edges = take most_sent (lows_in until edges)
