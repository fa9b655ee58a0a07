-- The edges of a round: its line has one, and the text of an edge is the same whichever line is taken.
use Rattle.std.proofs.Common.{◌≡◌, ℕ, ◌-◌, ◌<◌, ◌&&◌, nat_lt, Bool, true, false, List, filter, Some, None, refl, arith}
use Rattle.std.proofs.lemmas.Bool.Decides.{nat_tests}
use Rattle.line_wave.specs.Line.{Line, IsWave, was_low}
use Rattle.line_wave.specs.declared.Stretch.{Stretch}
use Rattle.line_wave.proofs.Kept.{wave_filter}
use Rattle.line_reading.specs.Reading.{start_of}
use Rattle.line_rounds.specs.Edges.{IsNextEdge}
use Rattle.line_rounds.specs.Round.{IsRoundLine}
use Rattle.line_rounds.proofs.Lasting.{begun_by, contended, low_at_begin}
use Rattle.line_rounds.proofs.Still.{high_before}
use Rattle.room_net.specs.State.{NetState, next_start}
use Rattle.room_net.specs.Step.{seats_of}
use Rattle.room_net.proofs.Lines.{begun}

-- the pulses that a round leaves are in order
pub left_in_order : (rest : ℕ) (ps : List Stretch) → IsWave ps → IsWave (filter (λ q. nat_lt rest q.from) ps)
left_in_order rest ps h = wave_filter (λ (q : Stretch). nat_lt rest q.from) ps h

fresh : (low : Line) (begin : ℕ) → ((u : ℕ) → u < begin → low u ≡ false) → was_low low begin ≡ false
fresh low begin high = by (nat_lt 0 begin) refl
  where
    by : (b : Bool) → nat_lt 0 begin ≡ b → (b && low (begin - 1)) ≡ false
    by true e = let l : 0 < begin = grind (arith, nat_tests) in high (begin - 1) (omega (arith, l))
    by false e = refl

-- the line of a round falls as it begins
pub has_edge : (s : NetState) (begin : ℕ) (low : Line) → next_start s ≡ Some begin → IsWave s.pulses → IsRoundLine (seats_of s begin) begin s.pulses low → IsNextEdge low begin None → ⊥
has_edge s begin low next order line none =
    let up : low begin ≡ true =
    low_at_begin (seats_of s begin) begin s.pulses low order (contended (seats_of s begin) begin s.pulses low line) (begun_by low begin (start_of low begin) refl).reports (begun s begin next) in
    let down : was_low low begin ≡ false = fresh low begin (high_before (seats_of s begin) begin s.pulses low line) in
    clash (low begin) (was_low low begin) up down (none begin (omega arith))
  where
    clash : (a b : Bool) → a ≡ true → b ≡ false → a ≡ b → ⊥
    clash a b x y e = cc
