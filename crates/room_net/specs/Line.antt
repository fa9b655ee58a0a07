-- The line of a whole run, and what is read on it (own).
use Rattle.std.specs.Prelude.{◌≡◌, ℕ, ◌≤◌, ◌<◌, false, List, [], ◌∷◌, map, Some}
use Rattle.std.specs.List.{flat_map}
use Rattle.line_wave.specs.declared.Stretch.{Stretch}
use Rattle.line_wave.specs.Line.{IsWave, line_of}
use Rattle.line_reading.specs.Readings.{readings_of}
use Rattle.line_rounds.specs.declared.Outcome.{Outcome}
use Rattle.line_rounds.specs.Round.{IsRound, close_in}
use Rattle.line_rounds.specs.Alone.{outcome_listed}
use Rattle.room_event.specs.declared.event.Event.{Event}
use Rattle.room_net.specs.State.{NetState, next_start}
use Rattle.room_net.specs.Apply.{net_after}
use Rattle.room_event.specs.Events.{IsFramedEvent}
use Rattle.room_net.specs.Framed.{AreFramed}
use Rattle.room_net.specs.Step.{seats_of, after_round}

-- what comes next in a run: an event at an instant, or a round that begins then and gives this outcome
pub data Move : Type 0 where
  Happens : (at : ℕ) → (event : Event) → Move
  Goes : (begin : ℕ) → (outcome : Outcome) → Move

-- a round goes from this state
pub record GoesFrom (s : NetState) (begin : ℕ) (o : Outcome) : Type 0 where
  pub begins : next_start s ≡ Some begin
  pub wave : IsWave o.wave
  pub round : IsRound (seats_of s begin) begin s.pulses o

abbrev pub Moves : NetState → List Move → NetState → Type 0
Moves s [] t = t ≡ s
Moves s (Happens at event ∷ ms) t = IsFramedEvent event × Moves (net_after at event s) ms t
Moves s (Goes begin o ∷ ms) t = GoesFrom s begin o × Moves (after_round s begin o) ms t

-- the rounds of a run, in order
abbrev pub rounds_of : List Move → List Outcome
rounds_of [] = []
rounds_of (Happens at event ∷ ms) = rounds_of ms
rounds_of (Goes begin o ∷ ms) = o ∷ rounds_of ms

-- the whole run's line is low where some round's is; a pulse that no round took is not on it
abbrev pub run_wave : List Outcome → List Stretch
run_wave os = flat_map (λ o. o.wave) os

-- Each round begins once the one before has closed: its reading is over, and its line has been high since before that.
abbrev pub ComesAfter : Outcome → List Outcome → Type 0
ComesAfter o [] = Unit {0}
ComesAfter o (p ∷ os) = (close_in o ≤ p.reading.begin) × (o.rest < p.reading.begin)

abbrev pub AreFollowing : List Outcome → Type 0
AreFollowing [] = Unit {0}
AreFollowing (o ∷ os) = ComesAfter o os × AreFollowing os

abbrev pub RunsAreInOrder : Type 0
RunsAreInOrder = (s t : NetState) (ms : List Move) → IsWave s.pulses → AreFramed s → Moves s ms t → AreFollowing (rounds_of ms)

-- The whole line is in order, too: rounds come one after another.
abbrev pub RunsAreWaves : Type 0
RunsAreWaves = (s t : NetState) (ms : List Move) → IsWave s.pulses → AreFramed s → Moves s ms t → IsWave (run_wave (rounds_of ms))

-- From the last close on it is high.
abbrev pub RunsAreOver : Type 0
RunsAreOver = (s t : NetState) (ms : List Move) → IsWave s.pulses → AreFramed s → Moves s ms t → (u : ℕ) → t.close ≤ u → line_of (run_wave (rounds_of ms)) u ≡ false

-- The readings of a run's whole line, cut at its last close or later, are its rounds' readings, in order, each once.
abbrev pub RunsAreRead : Type 0
RunsAreRead = (s t : NetState) (ms : List Move) (end : ℕ) → IsWave s.pulses → AreFramed s → Moves s ms t → t.close ≤ end
    → readings_of (line_of (run_wave (rounds_of ms))) end ≡ map outcome_listed (rounds_of ms)
