-- A round that was begun, and whose line is reported edge by edge (own).
use Rattle.std.specs.Prelude.{◌≡◌, ℕ, ◌-◌, ◌≤◌, Bool, false, nat_lt, if◌then◌else◌, List, take, Option, Some, None}
use Rattle.std.specs.Option.{ForSome}
use Rattle.line_wave.specs.declared.Stretch.{Stretch}
use Rattle.line_wave.specs.Line.{Line}
use Rattle.line_wave.specs.Bounds.{latest_instant}
use Rattle.line_reading.specs.Phase.{Standing, at_rest, standing_of}
use Rattle.line_rounds.specs.Round.{IsRoundLine}
use Rattle.line_wire.specs.declared.edge_wire.EdgeWire.{EdgeWire}
use Rattle.line_wire.specs.Wired.{ArePulls, IsBegunWith}
use Rattle.room_net.specs.State.{NetState, next_start}
use Rattle.room_net.specs.Step.{seats_of}

-- A fact of each line that the round can have which was begun: of its begin, of the instant before which it was told, and of
-- the line. There is one line (`one_line` of line_rounds).
abbrev pub OfRound : NetState → (ℕ → ℕ → (ℕ → Bool) → Type 0) → Type 0
OfRound s P = (begin heard : ℕ) (low : ℕ → Bool) → next_start s ≡ Some begin → s.heard ≡ Some heard → IsRoundLine (seats_of s begin) begin s.pulses low → P begin heard low

-- where each receiver stands by what was reported of the line before an instant; before the first edge the line is high
abbrev pub standing_reported : Line → ℕ → ℕ → Standing
standing_reported low begin heard = if nat_lt begin heard then standing_of low (heard - 1) else at_rest false

-- ---- the wire that reports it

-- with no round begun
abbrev pub idle : NetState → NetState
idle s = record s { heard = None }

-- A wire stands in a round of these pulses, and has taken those of them that have begun.
pub record Takes (pulses : List Stretch) (w : EdgeWire) : Type 0 where
  pub stands : IsBegunWith (take w.begun pulses) w
  pub pulls : ArePulls (take w.begun pulses) pulses w

-- It stands in the next round.
pub record IsNextOn (s : NetState) (w : EdgeWire) : Type 0 where
  pub begins : next_start s ≡ Some w.begin
  pub early : s.close ≤ latest_instant
  pub seats : w.seats.items ≡ seats_of s w.begin
  pub takes : Takes s.pulses w

-- a round that was begun is the next one
abbrev pub IsUnderway : NetState → Option EdgeWire → Type 0
IsUnderway s begun = ForSome begun (λ w. IsNextOn s w)
