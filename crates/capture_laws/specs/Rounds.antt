-- The rounds of a run of which a dump reports who drives the line (own).
use Rattle.std.specs.Prelude.{◌≡◌, ℕ, zero, suc, Bool, true, List, [], ◌∷◌, ◌++◌, map, All}
use Rattle.line_wave.specs.declared.Stretch.{Stretch}
use Rattle.line_wave.specs.Line.{IsWave, line_of}
use Rattle.line_rounds.specs.declared.Seat.{Seat}
use Rattle.line_rounds.specs.declared.Outcome.{Outcome}
use Rattle.line_rounds.specs.Contend.{AreFrames}
use Rattle.line_rounds.specs.Lasting.{is_begun}
use Rattle.line_rounds.specs.Round.{IsRound}
use Rattle.room_drives.specs.Drives.{drives_of, pulse_line, seat_line}
use Rattle.room_net.specs.State.{first_net}
use Rattle.room_net.specs.Step.{seats_of}
use Rattle.room_run.specs.declared.run.Totals.{Totals}
use Rattle.room_run.specs.declared.run.Turn.{Turn}
use Rattle.room_run.specs.declared.run.Turn.TheVariants.{Stop, Apply, Round}
use Rattle.room_run.specs.Run.{Config, start, turn_at}
use Rattle.room_run.specs.Emulate.{IsTraceOf}
use Rattle.room_run.specs.OneRun.{rounds_of_trace}
use Rattle.room_driven.specs.Driven.{Drives, IsDrivenBy}
use Rattle.room_driven.specs.Emulate.{IsDrivesOf}

-- a round: who sits at the line and sends as it begins, the pulses that no round before it has taken, and what it gives
pub record Laid : Type 0 where
  pub seats : List Seat
  pub begin : ℕ
  pub pulses : List Stretch
  pub outcome : Outcome

-- its drives: each seat's, and then the pulses'
abbrev pub drives : Laid → List (List Stretch)
drives r = drives_of r.seats r.begin r.pulses r.outcome

-- whether each seat pulls at a microsecond by the rule of a round, and then whether a pulse does
abbrev pub pulls : Laid → ℕ → List Bool
pulls r u = map (λ seat. seat_line r.begin (line_of r.outcome.wave) seat u) r.seats ++ pulse_line r.begin r.pulses (line_of r.outcome.wave) u ∷ []

-- the round of a turn, if it is one
abbrev pub rounds_by : (turn : Turn) (c : Config) (line text : List ℕ) (d : Config) → IsDrivenBy turn c line text d → List Laid
rounds_by Stop c line text d t = []
rounds_by (Apply at) c line text d t = []
rounds_by (Round begin) c line text d t = record { seats = seats_of c.net begin; begin = begin; pulses = c.net.pulses; outcome = t.0.outcome } ∷ []

abbrev pub rounds_in : (end turns : ℕ) (c : Config) (line text : List ℕ) (d : Config) → Drives end turns c line text d → List Laid
rounds_in end zero c line text d l = []
rounds_in end (suc turns) c line text d l = rounds_by (turn_at end c) c l.1 l.3 l.0 l.5 ++ rounds_in end turns l.0 l.2 l.4 d l.6

-- the rounds of the run whose drives a text reports, in order
abbrev pub rounds_of : (topology script text : List ℕ) (totals : Totals) → IsDrivesOf topology script text totals → List Laid
rounds_of topology script text totals p =
    rounds_in p.course.end p.driven.run.turns (start (first_net p.plan.tree p.course.pulses) p.course.events) p.driven.run.line p.driven.run.body p.driven.run.at_end p.driven.run.drives

-- it is one of which `drives_are_the_line` of room_drives speaks: its seats send frames, its pulses and its line are in order, this is
-- that of a round, and somebody pulls at once
pub record IsRuled (r : Laid) : Type 0 where
  pub frames : AreFrames r.seats
  pub order : IsWave r.pulses
  pub wave : IsWave r.outcome.wave
  pub round : IsRound r.seats r.begin r.pulses r.outcome
  pub begun : is_begun r.seats r.begin r.pulses ≡ true

-- So is each round of a run.
abbrev pub RoundsAreRuled : Type 0
RoundsAreRuled = (topology script text : List ℕ) (totals : Totals) → (p : IsDrivesOf topology script text totals) → All IsRuled (rounds_of topology script text totals p)

-- And these are the rounds that the trace reports, in order.
abbrev pub RoundsAreTheTraces : Type 0
RoundsAreTheTraces = (topology script x y : List ℕ) (s t : Totals) → (p : IsTraceOf topology script x s) → (q : IsDrivesOf topology script y t)
    → (s ≡ t) × (rounds_of_trace topology script x s p ≡ map (λ r. r.outcome) (rounds_of topology script y t q))
