-- A round is early and short, and which pulses are left after it.
use Rattle.std.proofs.Common.{◌≡◌, ℕ, ◌+◌, ◌≤◌, max, if◌then◌else◌, [], ◌∷◌, refl, arith, ap}
use Rattle.line_wave.specs.Bounds.{latest_instant, latest_heard}
use Rattle.line_wave.specs.Line.{line_of}
use Rattle.line_rounds.specs.declared.Outcome.{Outcome}
use Rattle.line_rounds.proofs.Bounds.{rounds_are_short}
use Rattle.room_net.specs.State.{NetState}
use Rattle.room_net.specs.Step.{IsNextRound}
use Rattle.room_net.specs.Progress.{IsProgress}

pub record Bounds (begin : ℕ) (o : Outcome) : Type 0 where
  pub at : o.reading.at ≤ latest_heard
  pub later : begin ≤ o.rest
  pub rest : o.rest ≤ latest_heard

pub bounds : (net new : NetState) (begin : ℕ) (o : Outcome) → begin ≤ latest_instant → IsNextRound net begin o new → IsProgress net begin new → Bounds begin o
bounds net new begin o soon next progress =
    let rest : new.rest ≡ o.rest = ap (λ (n : NetState). n.rest) next.after_is in
    let close : new.close ≡ max o.reading.at o.rest = ap (λ (n : NetState). n.close) next.after_is in
    record {
      at = omega (arith, rounds_are_short.ends (line_of o.wave) begin, next.round.ends, soon);
      later = omega (arith, progress.low, rest);
      rest = omega (arith, progress.closed, close, soon);
    }
