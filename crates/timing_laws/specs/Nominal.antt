-- The line of a round that no pulse comes into (CEC 5.2.1, 5.2.2: nominal times).
use Rattle.std.specs.Prelude.{◌≡◌, ℕ, true, List, [], is_some}
use Rattle.std.specs.List.{list_any}
use Rattle.line_wave.specs.Line.{IsWave}
use Rattle.line_wave.specs.Sender.{sender_stretches}
use Rattle.line_rounds.specs.declared.Seat.{Seat}
use Rattle.line_rounds.specs.declared.Outcome.{Outcome}
use Rattle.line_rounds.specs.Contend.{AreFrames}
use Rattle.line_rounds.specs.Round.{IsRound}

-- Whoever sends, wins and acknowledges: its line is that of one sender of the nominal times, which sends the bits that are read.
abbrev pub RoundsAreNominal : Type 0
RoundsAreNominal = (seats : List Seat) (begin : ℕ) (o : Outcome) → AreFrames seats → IsWave o.wave → IsRound seats begin [] o
    → list_any (λ s. is_some s.sends) seats ≡ true → o.wave ≡ sender_stretches begin o.reading.bits.items
