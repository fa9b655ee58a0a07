-- When it is known what there is to remark of a reading, whatever comes later (own).
use Rattle.std.specs.Prelude.{◌≡◌, ℕ, Bool, true, false, nat_lt, ◌&&◌, not, if◌then◌else◌, List, [], ◌∷◌, ◌++◌}
use Rattle.line_wave.specs.declared.Edge.{Edge}
use Rattle.line_frames.specs.declared.Ending.{Ending}
use Rattle.line_frames.specs.declared.Ending.TheVariants.{Short}
use Rattle.line_reading.specs.Readings.{Listed}
use Rattle.audit_widths.specs.Lows.{gone_to}
use Rattle.audit_core.specs.Audit.{after_all, come_to, drive_of, falls_until, first_tape, lows_of}

abbrev pub later : ℕ → ℕ → ℕ
later a b = if nat_lt a b then b else a

-- of edges that begin with a fall, there is a fall at an instant or later
abbrev pub has_next : ℕ → List Edge → Bool
has_next until [] = false
has_next until (f ∷ []) = not (nat_lt f.at until)
has_next until (f ∷ r ∷ es) = if nat_lt f.at until then has_next until es else true

-- the low stretch that ended a reading as too short is over: it may be a low drive
abbrev pub is_over : List Edge → Bool
is_over [] = false
is_over (f ∷ []) = false
is_over (f ∷ r ∷ es) = true

abbrev pub is_drive_known : Ending → List Edge → Bool
is_drive_known Short edges = is_over edges
is_drive_known _ edges = true

-- of the edges from its fall on
abbrev pub is_settled : Listed → List Edge → Bool
is_settled x edges = has_next (falls_until x.reported.ending x.reported.at) edges && is_drive_known x.reported.ending (gone_to x.reported.at edges)

-- The edges that are left change nothing of it. These are those that have come; before `from` they are passed over.
pub record IsKnown (from : ℕ) (window left : List Edge) (x : Listed) : Type 0 where
  pub place : gone_to (later from x.begin) (window ++ left) ≡ gone_to (later from x.begin) window ++ left
  pub lows : lows_of x (gone_to (later from x.begin) window ++ left) ≡ lows_of x (gone_to (later from x.begin) window)
  pub drive : drive_of x (gone_to (later from x.begin) window ++ left) ≡ drive_of x (gone_to (later from x.begin) window)

-- of edges that have come, those from the fall of a reading on, after the readings before it
abbrev pub edges_of : List Edge → List Listed → Listed → List Edge
edges_of come done x = (come_to x (after_all (first_tape come) done)).place

-- Of these readings two come one after the other, and what there is to remark of the first is not known by the edges that have come.
pub record TwoWait (come : List Edge) (first second : Listed) (readings : List Listed) : Type 0 where
  pub done : List Listed
  pub rest : List Listed
  pub parts : readings ≡ done ++ first ∷ second ∷ rest
  pub unknown : is_settled first (edges_of come done first) ≡ false
