-- A run has few rounds (own).
use Rattle.std.specs.Prelude.{ℕ, ◌+◌, ◌*◌, ◌<◌, ◌≤◌, max, List, [], ◌∷◌, length, All}
use Rattle.line_wave.specs.Line.{IsWave}
use Rattle.line_frames.specs.FreeTime.{free_time_of}
use Rattle.line_frames.specs.declared.free_time.FreeTime.TheVariants.{Retry}
use Rattle.room_net.specs.State.{NetState}
use Rattle.room_net.specs.Line.{Move, Happens, Goes, Moves, rounds_of}

-- each round of these moves begins before then
abbrev pub BeginBefore : ℕ → List Move → Type 0
BeginBefore end [] = Unit {0}
BeginBefore end (Happens at event ∷ ms) = BeginBefore end ms
BeginBefore end (Goes begin o ∷ ms) = (begin < end) × BeginBefore end ms

-- A round begins the shortest signal free time (CEC 9.1) after the last low stretch of the one before, or takes a pulse that
-- no round has taken. So as many rounds fit before an end as there are such times in it, and one more for each pulse.
abbrev pub RunsAreShort : Type 0
RunsAreShort = (s t : NetState) (ms : List Move) (end : ℕ) → IsWave s.pulses → All (λ p. s.rest ≤ p.from) s.pulses → Moves s ms t → BeginBefore end ms
    → s.rest + free_time_of Retry * length (rounds_of ms) ≤ max end s.rest + free_time_of Retry * length s.pulses
