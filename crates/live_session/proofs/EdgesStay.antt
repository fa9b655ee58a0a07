-- The edges of a round that is on stay, whatever comes for the horizon or later.
use Rattle.std.proofs.Common.{ℕ, ◌<◌, ◌≤◌, List, ◌∷◌, ◌++◌, inl, inr, Some, sym, arith, ◌∙◌}
use Rattle.std.proofs.lemmas.Bool.{cases_lt}
use Rattle.line_wave.specs.declared.Stretch.{Stretch}
use Rattle.line_wave.specs.Line.{line_of}
use Rattle.line_reading.specs.Reading.{reading_of}
use Rattle.line_rounds.specs.Round.{IsRoundLine}
use Rattle.room_net.specs.Step.{seats_of}
use Rattle.room_run.specs.Certain.{ComesFrom}
use Rattle.live_session.specs.Edges.{pinned}
use Rattle.live_session.specs.Turns.{certain_until}
use Rattle.live_session.specs.EdgesStay.{EdgesStay, PinnedEdgesStay}
use Rattle.live_session.proofs.Below.{later_pulses, round_same}
use Rattle.live_session.proofs.HasText.{begins_before}
use Rattle.live_session.proofs.PinnedEdges.{held_low, pinned_after, pinned_before, pinned_wave}
use Rattle.live_session.proofs.SameEdges.{Agree, same_edges}
use Rattle.live_session.proofs.Wholly.{comes_from}

pub edges_stay : EdgesStay
edges_stay form span until end begin c edges events later comes within turn (o, mid, wave, next, is) = (
  round_same until end begin c.net c.events events later turn comes,
  λ other after wave' next'.
      is ∙ same_edges form span until 0 0 o.wave other.wave within wave wave'
      (later_pulses (seats_of c.net begin) begin c.net.pulses later until (line_of o.wave) (line_of other.wave) comes.begun next.round.line next'.round.line),
)

-- while the pin is low, however long it is
pub pinned_edges_stay : PinnedEdgesStay
pinned_edges_stay form span low horizon end begin c edges pull events later early soon within_span comes turn (o, mid, wave, next, is) = (
  round_same until end begin c.net c.events events (pull ∷ later) turn from,
  λ other after wave' next' reads.
      is ∙ same_edges form span horizon 0 0 (pinned low o.wave) other.wave within_span (pinned_wave 0 low o.wave wave (omega arith) (omega (arith, early))) wave'
      (agree other.wave next'.round.line reads),
)
  where
    until : ℕ
    until = certain_until (Some low) horizon

    from : ComesFrom until events (pull ∷ later) end
    from = comes_from (Some low) horizon end events (pull ∷ later) comes

    begins : begin < until
    begins = begins_before until begin c turn

    agree : (whole : List Stretch) → IsRoundLine (seats_of c.net begin) begin (c.net.pulses ++ pull ∷ later) (line_of whole) → low ≤ (reading_of (line_of whole) begin).until → Agree horizon (pinned low o.wave) whole
    agree whole line reads t l =
        elim (cases_lt t low) [
          | inl lt ↦ pinned_before 0 low t o.wave wave (omega (arith, early)) lt
              ∙ later_pulses (seats_of c.net begin) begin c.net.pulses (pull ∷ later) until (line_of o.wave) (line_of whole) from.begun next.round.line line t (omega (arith, l, lt))
          | inr ge ↦ pinned_after low t o.wave ge (omega (arith, l, soon))
              ∙ sym (held_low (seats_of c.net begin) begin t c.net.pulses later pull (line_of whole) line
              (let x = comes.0 in let y = begins in omega (arith, x, y)) (let x = comes.0 in omega (arith, x, reads)) (let x = comes.0 in omega (arith, x, ge)) (let x = comes.1 in omega (arith, x, l)))
        ]
